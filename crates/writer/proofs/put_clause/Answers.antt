-- `writer::put_clause` meets its contract. Assumes nothing.
use mathlib.Core.List.{[], ◌∷◌}
use Rattle.base.proofs.Bytes.{and_then_lem, room_first, room_next, left_all, turn_room, turn_next, turn_none}
use Rattle.writer.specs.Parts.{clause_bytes}
use Rattle.writer.proofs.put_clause.Goals as goal

pub put-requires : goal.put-requires
unfolding clause_bytes
put-requires c = rw c.from.ensures (room_first (0x40 ∷ []) _ c.requires)

pub loop-k-init : goal.loop-k-init
unfolding clause_bytes
loop-k-init c = left_all (room_next (0x40 ∷ []) _ c.requires (rw c.from.ensures at c.put.ensures))

pub put_comparison-requires : goal.put_comparison-requires
put_comparison-requires c = turn_room c.comparisons-k-items.ensures c.loop-k.invariant _ c.loop-k-test.true

pub loop-k-preserved : goal.loop-k-preserved
loop-k-preserved c = turn_next c.comparisons-k-items.ensures c.loop-k.invariant _ c.loop-k-test.true c.put_comparison.ensures

pub returns : goal.returns
unfolding clause_bytes
returns c = and_then_lem (rw c.from.ensures at c.put.ensures) (turn_none c.comparisons-k-items.ensures c.loop-k.invariant c.loop-k-test.false)
