-- The bytes of a record, part by part.
use Rattle.std.specs.Prelude.{cond, List, [], ◌∷◌, ◌++◌, ℕ, take, eqb}
use Rattle.base.specs.Lists.{flat_map}
use Rattle.words.specs.Word.{encoded}
use Rattle.words.specs.Compare.{op_at, number_of_op}
use Rattle.job.specs.declared.Column.{Column}
use Rattle.job.specs.declared.Comparison.{Comparison}
use Rattle.job.specs.declared.Clause.{Clause}
use Rattle.job.specs.declared.Condition.{Condition}
use Rattle.job.specs.declared.Expression.{Expression}
use Rattle.job.specs.declared.Columns.{Columns}
use Rattle.job.specs.Meaning.{side_of, table_numbers}
use Rattle.layout.specs.Writing.{comparison_bytes}

abbrev pub columns_in : Columns → List Column
columns_in k = take k.width k.columns

-- a column's bytes among those of table t: none where it is of another
abbrev pub column_in : ℕ → Column → List ℕ
column_in t c = cond (eqb c.table t) (0x11 ∷ encoded 4 c.bounds.lo ++ encoded 4 c.bounds.hi) []

unfoldable pub table_bytes : List Column → ℕ → List ℕ
table_bytes cs t = 0x10 ∷ flat_map cs (column_in t)

unfoldable pub tables_bytes : Columns → List ℕ
tables_bytes k = flat_map (take k.tables table_numbers) (table_bytes (columns_in k))

-- a command with each of some numbers
abbrev pub each_bytes : ℕ → List ℕ → List ℕ
each_bytes b l = flat_map l (λ x. b ∷ x ∷ [])

abbrev pub comparison_in : Comparison → List ℕ
comparison_in k = comparison_bytes (number_of_op (op_at k.op)) k.left (side_of k.right k.number)

unfoldable pub clause_bytes : Clause → List ℕ
clause_bytes c = 0x40 ∷ flat_map (take c.size c.comparisons) comparison_in

unfoldable pub condition_bytes : Condition → List ℕ
condition_bytes k = flat_map (take k.size k.clauses) clause_bytes

abbrev pub used_bytes : Expression → List ℕ
used_bytes e = each_bytes 0x30 (take e.tables e.used)

abbrev pub outputs_bytes : Expression → List ℕ
outputs_bytes e = each_bytes 0x31 (take e.width e.outputs)

unfoldable pub expression_bytes : Expression → List ℕ
expression_bytes e = used_bytes e ++ outputs_bytes e ++ condition_bytes e.condition
