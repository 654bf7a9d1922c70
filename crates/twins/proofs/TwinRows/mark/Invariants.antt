-- `twins::TwinRows::mark` meets its contract. Assumes nothing.
use Prim.Native.Nat.{suc}
use lib.ListN.{length}
use Rattle.base.specs.Lists.{at}
use Rattle.base.proofs.Arrays.{Pass}
use Rattle.zone.specs.Zone.{can_differ}
use Rattle.twins.proofs.Marking.{mark_of}
use Rattle.twins.proofs.TwinRows.mark.Given as goal

abbrev pub invariant-loop-c : goal.invariant-loop-c
invariant-loop-c g l =
    Pass (mark_of (λ c. can_differ l.z (suc c) (suc (at l.self.twin c))) l.initial.marks) 0 (length l.initial.marks) l.c l.initial.marks l.marks
