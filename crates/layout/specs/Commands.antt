-- Document 01, "Job bytes": the start, the commands with their operands, and their order.
use Rattle.std.specs.Prelude.{Bool, cond, List, [], ◌∷◌, ℕ, ◌+◌, get_or, eqb, ℤ, Option, None, Some}
use Rattle.words.specs.Word.{value_at}
use Rattle.model.specs.Tables.{Against, column, number}
use Rattle.layout.specs.declared.Command.{Command}
use Rattle.layout.specs.declared.Command.TheVariants.{NextTable, NextColumn, ExtractBegins, QueryBegins, TableUsed, OutputColumn}
use Rattle.layout.specs.declared.Command.TheVariants.{NextClause, NumberCompared, ColumnCompared, End}

abbrev pub start_bytes : List ℕ
start_bytes = 0x50 ∷ 0x53 ∷ 0x4A ∷ 0x31 ∷ []

-- ---- Commands

-- a command's byte
abbrev pub number_of_command : Command → ℕ
number_of_command NextTable = 0x10
number_of_command NextColumn = 0x11
number_of_command ExtractBegins = 0x20
number_of_command QueryBegins = 0x21
number_of_command TableUsed = 0x30
number_of_command OutputColumn = 0x31
number_of_command NextClause = 0x40
number_of_command NumberCompared = 0x41
number_of_command ColumnCompared = 0x42
number_of_command End = 0xFF

-- the command that a byte stands for, or none
unfoldable pub command_of : ℕ → Option Command
command_of b =
    cond (eqb b 0x10) (Some NextTable)
    (cond (eqb b 0x11) (Some NextColumn)
    (cond (eqb b 0x20) (Some ExtractBegins)
    (cond (eqb b 0x21) (Some QueryBegins)
    (cond (eqb b 0x30) (Some TableUsed)
    (cond (eqb b 0x31) (Some OutputColumn)
    (cond (eqb b 0x40) (Some NextClause)
    (cond (eqb b 0x41) (Some NumberCompared)
    (cond (eqb b 0x42) (Some ColumnCompared)
    (cond (eqb b 0xFF) (Some End)
    None)))))))))

-- how many operand bytes stand behind it
abbrev pub operands : Command → ℕ
operands NextTable = 0
operands NextColumn = 8
operands ExtractBegins = 0
operands QueryBegins = 0
operands TableUsed = 1
operands OutputColumn = 1
operands NextClause = 0
operands NumberCompared = 6
operands ColumnCompared = 3
operands End = 0

-- ---- Order

-- the commands that stand in a condition; a comparison may follow each
abbrev pub in_condition : List ℕ
in_condition = 0x40 ∷ 0x41 ∷ 0x42 ∷ []

-- where an expression may end
abbrev pub ending : List ℕ
ending = 0x31 ∷ in_condition

-- the commands that a command may follow, in the query or before it; 0 is the start
abbrev pub before : Bool → Command → List ℕ
before in_query NextTable = 0 ∷ 0x11 ∷ []
before in_query NextColumn = 0x10 ∷ 0x11 ∷ []
before in_query ExtractBegins = 0x11 ∷ []
before in_query QueryBegins = cond in_query [] ending
before in_query TableUsed = 0x20 ∷ 0x21 ∷ 0x30 ∷ []
before in_query OutputColumn = 0x30 ∷ 0x31 ∷ []
before in_query NextClause = ending
before in_query NumberCompared = in_condition
before in_query ColumnCompared = in_condition
before in_query End = cond in_query ending []

-- ---- Entries

-- what a command says with its operands
pub data Entry : Type 0 where
  add_table : Entry
  add_column : ℤ → ℤ → Entry  -- lo, hi
  mark : ℕ → Entry  -- a command that adds nothing: the extract or the query begins, or the job ends
  use_table : ℕ → Entry
  add_output : ℕ → Entry
  add_clause : Entry
  add_comparison : ℕ → ℕ → Against → Entry  -- the op's number, the left column, the right side

-- the entry of a command that stands at a place
abbrev pub entry_at : Command → List ℕ → ℕ → Entry
entry_at NextTable s at = add_table
entry_at NextColumn s at = add_column (value_at 4 s (at + 1)) (value_at 4 s (at + 5))
entry_at ExtractBegins s at = mark 0x20
entry_at QueryBegins s at = mark 0x21
entry_at TableUsed s at = use_table (get_or s (at + 1) 0)
entry_at OutputColumn s at = add_output (get_or s (at + 1) 0)
entry_at NextClause s at = add_clause
entry_at NumberCompared s at = add_comparison (get_or s (at + 1) 0) (get_or s (at + 2) 0) (number (value_at 4 s (at + 3)))
entry_at ColumnCompared s at = add_comparison (get_or s (at + 1) 0) (get_or s (at + 2) 0) (column (get_or s (at + 3) 0))
entry_at End s at = mark 0xFF
