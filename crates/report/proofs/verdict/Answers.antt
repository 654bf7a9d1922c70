-- `report::verdict` meets its contract: a field, the listing and the line's end. Assumes nothing.
use mathlib.Core.Path.{refl}
use Rattle.base.proofs.Bytes.{and_then_lem, puts_is}
use Rattle.report.specs.Text.{verdict_text}
use Rattle.std.specs.Prelude.{map}
use Rattle.model.specs.Answers.{number_of_kind, number_of_held}
use Rattle.report.proofs.Numbers.{columns_text}
use Rattle.report.proofs.Rooms.{room_kind, room_word, room_columns, room_judged}
use Rattle.report.proofs.verdict.Goals as goal

pub put_field-requires : goal.put_field-requires
put_field-requires c =
    rw (c.from-2.ensures, c.from.ensures) (room_kind (number_of_kind c.args.kind) (map number_of_held c.args.columns.now) c.requires)

pub put_all-requires : goal.put_all-requires
put_all-requires c =
    room_word (number_of_kind c.args.kind) (map number_of_held c.args.columns.now) c.requires
    (rw (c.from-2.ensures, c.from.ensures) at c.put_field.ensures)

pub put_columns-requires : goal.put_columns-requires
put_columns-requires c =
    rw (columns_text c.args.columns.now)
    (room_columns (number_of_kind c.args.kind) (map number_of_held c.args.columns.now) c.requires
    (and_then_lem (rw (c.from-2.ensures, c.from.ensures) at c.put_field.ensures) c.put_all.ensures))

pub put-requires : goal.put-requires
put-requires c =
    room_judged (number_of_kind c.args.kind) (map number_of_held c.args.columns.now) c.requires
    (and_then_lem (and_then_lem (rw (c.from-2.ensures, c.from.ensures) at c.put_field.ensures) c.put_all.ensures)
    (puts_is refl (columns_text c.args.columns.now) c.put_columns.ensures))

pub returns : goal.returns
unfolding verdict_text
returns c =
    and_then_lem (and_then_lem (and_then_lem (rw (c.from-2.ensures, c.from.ensures) at c.put_field.ensures) c.put_all.ensures)
    (puts_is refl (columns_text c.args.columns.now) c.put_columns.ensures)) c.put.ensures
