-- The numbers that document 01 gives to the kinds and to how a column is held.
use Rattle.std.specs.Prelude.{ℕ}
use Rattle.model.specs.declared.Kind.{Kind}
use Rattle.model.specs.declared.Kind.TheVariants.{Computable, TablesDiffer, RowNotKept, ConditionHidden, OutputHidden}
use Rattle.model.specs.declared.Held.{Held}
use Rattle.model.specs.declared.Held.TheVariants.{NotUsed, Stored, Fixed, Open}

abbrev pub number_of_kind : Kind → ℕ
number_of_kind Computable = 0
number_of_kind TablesDiffer = 1
number_of_kind RowNotKept = 2
number_of_kind ConditionHidden = 3
number_of_kind OutputHidden = 4

abbrev pub number_of_held : Held → ℕ
number_of_held NotUsed = 0
number_of_held Stored = 1
number_of_held Fixed = 2
number_of_held Open = 3
