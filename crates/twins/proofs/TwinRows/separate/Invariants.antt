-- `twins::TwinRows::separate` meets its contract. Assumes nothing.
use mathlib.Core.Path.{◌≡◌}
use lib.ListN.{drop}
use Rattle.base.specs.Options.{first_of}
use Rattle.base.specs.Lists.{at}
use Rattle.twins.specs.Pairs.{apart, some_apart}
use Rattle.twins.proofs.TwinRows.separate.Given as goal

abbrev pub invariant-loop-c : goal.invariant-loop-c
invariant-loop-c g l = (l.z ≡ l.initial.z)
    × (first_of (drop l.c-index l.cs) (λ c. apart c (at l.self.twin c) l.initial.z) ≡ some_apart (at l.self.twin) l.cs l.initial.z)
