-- `databases::present` meets its contract: a pass over the tables. Assumes nothing.
use mathlib.Core.Bool.{false, ◌&&◌}
use lib.ListN.{replicate}
use Rattle.base.proofs.Arrays.{Pass}
use Rattle.model.specs.Tables.{uses}
use Rattle.job.specs.Meaning.{expression_of}
use Rattle.databases.proofs.present.Given as goal

abbrev pub invariant-loop-t : goal.invariant-loop-t
invariant-loop-t l = Pass (λ t. uses (expression_of l.e) t && uses (expression_of l.f) t) 0 4 l.t (replicate 4 false) l.both-items
