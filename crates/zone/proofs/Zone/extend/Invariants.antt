-- `Zone::extend` meets its contract: the row is raised by the given values, one after the other. Assumes nothing.
use lib.ListN.{length}
use Rattle.zone.proofs.Values.{Raising}
use Rattle.zone.proofs.Zone.extend.Given as goal

abbrev pub invariant-loop-p : goal.invariant-loop-p
invariant-loop-p g l = Raising l.self l.ps l.vs (length l.yielded) l.x
