-- `zone::put_shorter` meets its contract: the numbers are looked at one after the other. Assumes nothing.
use Rattle.zone.specs.Passes.{shorter}
use Rattle.zone.proofs.Nearer.{Listing}
use Rattle.zone.proofs.put_shorter.Given as goal

abbrev pub invariant-loop-k : goal.invariant-loop-k
invariant-loop-k l = Listing (shorter l.step l.from l.own l.most l.d) l.k l.count l.list
