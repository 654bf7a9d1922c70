-- `writer::put_table` meets its contract. Assumes nothing.
use mathlib.Core.List.{[], ◌∷◌}
use Rattle.base.proofs.Bytes.{and_then_lem, room_first, room_next, left_all, turn_room, turn_next, turn_none}
use Rattle.writer.specs.Parts.{table_bytes}
use Rattle.writer.proofs.put_table.Goals as goal

pub put-requires : goal.put-requires
unfolding table_bytes
put-requires c = rw c.from.ensures (room_first (0x10 ∷ []) _ c.requires)

pub loop-c-init : goal.loop-c-init
unfolding table_bytes
loop-c-init c = left_all (room_next (0x10 ∷ []) _ c.requires (rw c.from.ensures at c.put.ensures))

pub put_column-requires : goal.put_column-requires
put_column-requires c = turn_room c.columns-c-items.ensures c.loop-c.invariant _ c.loop-c-test.true

pub loop-c-preserved : goal.loop-c-preserved
loop-c-preserved c = turn_next c.columns-c-items.ensures c.loop-c.invariant _ c.loop-c-test.true c.put_column.ensures

pub returns : goal.returns
unfolding table_bytes
returns c = and_then_lem (rw c.from.ensures at c.put.ensures) (turn_none c.columns-c-items.ensures c.loop-c.invariant c.loop-c-test.false)
