-- `twins::TwinRows::differ` meets its contract. Assumes nothing.
use mathlib.Core.Path.{◌≡◌}
use lib.ListN.{drop}
use Rattle.base.specs.Lists.{at}
use Rattle.job.specs.Meaning.{condition_of}
use Rattle.conditions.specs.Meeting.{by_clause, pairs_of}
use Rattle.twins.specs.Pairs.{some_apart}
use Rattle.twins.proofs.TwinRows.differ.Given as goal

abbrev pub invariant-loop-e : goal.invariant-loop-e
invariant-loop-e g l =
    by_clause l.first (drop l.e-index (condition_of l.fn.l)) (some_apart (at l.self.twin) l.cs)
    ≡ by_clause l.first (condition_of l.fn.l) (some_apart (at l.self.twin) l.cs)

abbrev pub invariant-loop-c : goal.invariant-loop-c
invariant-loop-c g l =
    by_clause l.z (drop l.c-index (condition_of l.fn.k)) (λ y. by_clause y (condition_of l.fn.l) (some_apart (at l.self.twin) l.cs))
    ≡ pairs_of l.z (condition_of l.fn.k) (condition_of l.fn.l) (some_apart (at l.self.twin) l.cs)
