-- `Zone::greatest` meets its contract: a pass over the values. Assumes nothing.
use lib.ListN.{length}
use Rattle.base.proofs.Arrays.{Pass}
use Rattle.zone.proofs.Values.{greatest_at}
use Rattle.zone.proofs.Zone.greatest.Given as goal

abbrev pub invariant-loop-y : goal.invariant-loop-y
invariant-loop-y g l = Pass (greatest_at l.self) 0 (length l.initial.x) l.y l.initial.x l.x
