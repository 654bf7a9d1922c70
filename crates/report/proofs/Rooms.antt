-- A text is put part by part, with room for each, where there is room for the whole. Assumes nothing.
use mathlib.Core.List.{List, ◌++◌}
use Prim.Native.Nat.{ℕ}
use Rattle.base.specs.Lists.{flat_map}
use Rattle.base.specs.Bytes.{Room, Puts}
use Rattle.base.specs.declared.Output.{Output}
use Rattle.base.proofs.Bytes.{room_first, room_next}
use Rattle.report.specs.Text.{ascii, field, refusal_text, verdict_text}

module _ (number at : ℕ) {old : Output} (all : Room old (refusal_text number at)) where
  refusal_room : Room old (field "refused " number ++ field " at " at ++ ascii "\n")
  unfolding refusal_text
  refusal_room = all

  position_room : Room old (field "refused " number ++ field " at " at)
  position_room = room_first _ (ascii "\n") refusal_room

  pub room_number : Room old (field "refused " number)
  room_number = room_first _ (field " at " at) position_room

  pub room_position : {new : Output} → Puts old new (field "refused " number) → Room new (field " at " at)
  room_position = room_next _ (field " at " at) position_room

  pub room_refused : {new : Output} → Puts old new (field "refused " number ++ field " at " at) → Room new (ascii "\n")
  room_refused = room_next _ (ascii "\n") refusal_room

module _ (kind : ℕ) (columns : List ℕ) {old : Output} (all : Room old (verdict_text kind columns)) where
  verdict_room : Room old (field "kind " kind ++ ascii "\ncolumns" ++ flat_map columns (field " ") ++ ascii "\n")
  unfolding verdict_text
  verdict_room = all

  columns_room : Room old (field "kind " kind ++ ascii "\ncolumns" ++ flat_map columns (field " "))
  columns_room = room_first _ (ascii "\n") verdict_room

  word_room : Room old (field "kind " kind ++ ascii "\ncolumns")
  word_room = room_first _ (flat_map columns (field " ")) columns_room

  pub room_kind : Room old (field "kind " kind)
  room_kind = room_first _ (ascii "\ncolumns") word_room

  pub room_word : {new : Output} → Puts old new (field "kind " kind) → Room new (ascii "\ncolumns")
  room_word = room_next _ (ascii "\ncolumns") word_room

  pub room_columns : {new : Output} → Puts old new (field "kind " kind ++ ascii "\ncolumns") → Room new (flat_map columns (field " "))
  room_columns = room_next _ (flat_map columns (field " ")) columns_room

  pub room_judged : {new : Output} → Puts old new (field "kind " kind ++ ascii "\ncolumns" ++ flat_map columns (field " ")) → Room new (ascii "\n")
  room_judged = room_next _ (ascii "\n") verdict_room
