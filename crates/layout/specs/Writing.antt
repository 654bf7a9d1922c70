-- The bytes of a job: the start, then an entry for each thing in it.
use Rattle.std.specs.Prelude.{List, [], ◌∷◌, ◌++◌, map, ℕ}
use Rattle.base.specs.Lists.{flat_map}
use Rattle.words.specs.Word.{encoded}
use Rattle.model.specs.Tables.{Table, Against, column, number, Clause, Expression, Job}
use Rattle.words.specs.Compare.{number_of_op}
use Rattle.layout.specs.Commands.{start_bytes, Entry, add_table, add_column, mark, use_table, add_output, add_clause, add_comparison}

abbrev pub comparison_bytes : ℕ → ℕ → Against → List ℕ
comparison_bytes o l (number v) = 0x41 ∷ o ∷ l ∷ encoded 4 v
comparison_bytes o l (column c) = 0x42 ∷ o ∷ l ∷ c ∷ []

abbrev pub entry_bytes : Entry → List ℕ
entry_bytes add_table = 0x10 ∷ []
entry_bytes (add_column lo hi) = 0x11 ∷ encoded 4 lo ++ encoded 4 hi
entry_bytes (mark b) = b ∷ []
entry_bytes (use_table t) = 0x30 ∷ t ∷ []
entry_bytes (add_output c) = 0x31 ∷ c ∷ []
entry_bytes add_clause = 0x40 ∷ []
entry_bytes (add_comparison o l r) = comparison_bytes o l r

abbrev pub table_entries : Table → List Entry
table_entries bs = add_table ∷ map (λ b. add_column b.lo b.hi) bs

abbrev pub clause_entries : Clause → List Entry
clause_entries c = add_clause ∷ map (λ k. add_comparison (number_of_op k.op) k.left k.right) c

unfoldable pub expression_entries : Expression → List Entry
expression_entries e = map use_table e.used ++ map add_output e.outputs ++ flat_map e.condition clause_entries

unfoldable pub entries_of : Job → List Entry
entries_of j =
    flat_map j.tables table_entries
    ++ (mark 0x20 ∷ expression_entries j.extract)
    ++ (mark 0x21 ∷ expression_entries j.query)
    ++ (mark 0xFF ∷ [])

unfoldable pub job_bytes : Job → List ℕ
job_bytes j = start_bytes ++ flat_map (entries_of j) entry_bytes
