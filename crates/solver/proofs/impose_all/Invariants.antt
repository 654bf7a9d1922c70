-- `solver::impose_all` meets its contract. Assumes nothing.
use mathlib.Core.List.{map}
use Rattle.job.specs.Meaning.{comparison_of}
use Rattle.solver.proofs.Progress.{Progress}
use Rattle.solver.proofs.impose_all.Given as goal

abbrev pub invariant-loop-k : goal.invariant-loop-k
invariant-loop-k g l = Progress (map comparison_of l.list) l.initial.z l.k-index l.z
