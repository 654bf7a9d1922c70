-- `conditions::met` meets its contract: what is left of the clauses decides. Assumes nothing.
use mathlib.Core.Path.{◌≡◌}
use lib.ListN.{drop}
use Rattle.base.specs.Options.{first_of}
use Rattle.job.specs.Meaning.{condition_of}
use Rattle.solver.specs.Solver.{imposed_all}
use Rattle.conditions.specs.Meeting.{met}
use Rattle.conditions.proofs.met.Given as goal

abbrev pub invariant-loop-c : goal.invariant-loop-c
invariant-loop-c g l = first_of (drop l.c-index (condition_of l.k)) (imposed_all l.z) ≡ met l.z (condition_of l.k)
