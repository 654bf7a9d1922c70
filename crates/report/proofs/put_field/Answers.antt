-- `report::put_field` meets its contract: the word, and the number's digits. Assumes nothing.
use Rattle.base.proofs.Bytes.{and_then_lem, room_next}
use Rattle.report.proofs.put_field.Goals as goal

pub put_digits-requires : goal.put_digits-requires
put_digits-requires c = room_next _ _ c.requires c.put_all.ensures

pub returns : goal.returns
returns c = and_then_lem c.put_all.ensures c.put_digits.ensures
