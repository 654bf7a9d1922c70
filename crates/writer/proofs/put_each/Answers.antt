-- `writer::put_each` meets its contract. Assumes nothing.
use mathlib.Core.Path.{refl}
use Rattle.base.proofs.Bytes.{left_all, turn_room, turn_next, turn_none}
use Rattle.writer.proofs.put_each.Goals as goal

pub loop-x-init : goal.loop-x-init
loop-x-init c = left_all c.requires

pub put_all-requires : goal.put_all-requires
put_all-requires c = rw c.from.ensures (turn_room refl c.loop-x.invariant _ c.loop-x-test.true)

pub loop-x-preserved : goal.loop-x-preserved
loop-x-preserved c = turn_next refl c.loop-x.invariant _ c.loop-x-test.true (rw c.from.ensures at c.put_all.ensures)

pub returns : goal.returns
returns c = turn_none refl c.loop-x.invariant c.loop-x-test.false
