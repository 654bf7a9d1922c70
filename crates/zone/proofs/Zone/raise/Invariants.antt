-- `Zone::raise` meets its contract: a pass over the values. Assumes nothing.
use lib.ListN.{length}
use Rattle.base.proofs.Arrays.{Pass}
use Rattle.zone.specs.Passes.{raised_by}
use Rattle.zone.proofs.Zone.raise.Given as goal

abbrev pub invariant-loop-y : goal.invariant-loop-y
invariant-loop-y g l = Pass (raised_by l.self l.p l.v l.initial.x) 0 (length l.initial.x) l.y l.initial.x l.x
