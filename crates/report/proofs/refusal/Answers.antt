-- `report::refusal` meets its contract: two fields and the line's end. Assumes nothing.
use Rattle.base.proofs.Bytes.{and_then_lem}
use Rattle.report.specs.Text.{refusal_text}
use Rattle.layout.specs.Faults.{number_of_fault}
use Rattle.report.proofs.Rooms.{room_number, room_position, room_refused}
use Rattle.report.proofs.refusal.Goals as goal

pub put_field-requires : goal.put_field-requires
put_field-requires c = rw (c.from-2.ensures, c.from.ensures) (room_number (number_of_fault c.args.r.fault) c.args.r.at c.requires)

pub put_field-requires-2 : goal.put_field-requires-2
put_field-requires-2 c =
    room_position (number_of_fault c.args.r.fault) c.args.r.at c.requires (rw (c.from-2.ensures, c.from.ensures) at c.put_field.ensures)

pub put-requires : goal.put-requires
put-requires c =
    room_refused (number_of_fault c.args.r.fault) c.args.r.at c.requires
    (and_then_lem (rw (c.from-2.ensures, c.from.ensures) at c.put_field.ensures) c.put_field-2.ensures)

pub returns : goal.returns
unfolding refusal_text
returns c = and_then_lem (and_then_lem (rw (c.from-2.ensures, c.from.ensures) at c.put_field.ensures) c.put_field-2.ensures) c.put.ensures
