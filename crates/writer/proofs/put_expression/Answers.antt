-- `writer::put_expression` meets its contract. Assumes nothing.
use mathlib.Core.List.{[], ◌∷◌}
use Rattle.base.proofs.Bytes.{and_then_lem, room_first, room_next}
use Rattle.layout.specs.Commands.{number_of_command}
use Rattle.writer.specs.Parts.{expression_bytes}
use Rattle.writer.proofs.put_expression.Goals as goal

pub put_each-requires : goal.put_each-requires
unfolding expression_bytes
put_each-requires c =
    rw c.used_tables.ensures
    (room_first _ _ (room_first _ _ (room_next (number_of_command c.args.command ∷ []) _ c.requires (rw c.from.ensures at c.put.ensures))))

pub put_each-requires-2 : goal.put_each-requires-2
unfolding expression_bytes
put_each-requires-2 c =
    let used = and_then_lem (rw c.from.ensures at c.put.ensures) (rw c.used_tables.ensures at c.put_each.ensures) in
    rw c.output_columns.ensures (room_next _ _ (room_first _ _ c.requires) used)

pub put_condition-requires : goal.put_condition-requires
unfolding expression_bytes
put_condition-requires c =
    let used = and_then_lem (rw c.from.ensures at c.put.ensures) (rw c.used_tables.ensures at c.put_each.ensures) in
    room_next _ _ c.requires (and_then_lem used (rw c.output_columns.ensures at c.put_each-2.ensures))

pub returns : goal.returns
unfolding expression_bytes
returns c =
    let used = and_then_lem (rw c.from.ensures at c.put.ensures) (rw c.used_tables.ensures at c.put_each.ensures) in
    and_then_lem (and_then_lem used (rw c.output_columns.ensures at c.put_each-2.ensures)) c.put_condition.ensures
