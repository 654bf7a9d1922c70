-- The record of a job stands for that job. Assumes nothing.
use mathlib.Core.Path.{◌≡◌, refl, ◌∙◌}
use mathlib.Core.Logic.{◌≢◌}
use mathlib.Core.List.{List, [], ◌∷◌, ◌++◌, map, append-nil}
use Prim.Native.Nat.{ℕ, zero, suc, ◌+◌, ◌<◌, ◌≤◌}
use native.Mathlib.Omega.{arith}
use native.Mathlib.Nat.{add-zero}
use native.Mathlib.Numerals.{sub-one}
use lib.ListN.{length, take, get_or, length-append, length-map}
use borrow.Author.Tests.{eq-eqb, ne_eqb}
use Rattle.base.proofs.Lists.{map_back}
use Rattle.base.proofs.Arrays.{take_padded}
use Rattle.model.specs.Tables as model
use Rattle.model.specs.Tables.{Table, Against, column, number, columns_of}
use Rattle.words.proofs.Ops.{op_number}
use Rattle.job.specs.declared.Column.{Column}
use Rattle.job.specs.Record.{no_comparison, no_clause, no_column}
use Rattle.job.specs.Meaning.{side_of, side_number, side_value, condition_of, condition_record, job_of, table_in, table_numbers, column_record, column_records, comparison_of, comparison_record, clause_of, clause_record, expression_of, expression_record, meaning_of, record_of}

-- ---- tables
pub table_number : (t : ℕ) → t < 4 → get_or table_numbers t 0 ≡ t
table_number zero h = refl
table_number (suc zero) h = refl
table_number (suc (suc zero)) h = refl
table_number (suc (suc (suc zero))) h = refl
table_number (suc (suc (suc (suc t)))) h = absurd (omega arith)

pub columns_length : (k : ℕ) (ts : List Table) → length (column_records k ts) ≡ length (columns_of ts)
columns_length k [] = refl
columns_length k (bs ∷ ts) =
    rw (length-append (map (column_record k) bs), length-append bs, length-map bs (column_record k), columns_length (suc k) ts)

-- columns of table k before others: they are of that table, and of no other
of_table : (k : ℕ) (bs : Table) (cs : List Column) → table_in (map (column_record k) bs ++ cs) k ≡ bs ++ table_in cs k
of_table k [] cs = refl
of_table k (b ∷ bs) cs = rw (eq-eqb k k refl, of_table k bs cs)

of_other : (k t : ℕ) → k ≢ t → (bs : Table) (cs : List Column) → table_in (map (column_record k) bs ++ cs) t ≡ table_in cs t
of_other k t e [] cs = refl
of_other k t e (b ∷ bs) cs = rw (ne_eqb k t e) (of_other k t e bs cs)

below : (k t : ℕ) → t < k → (ts : List Table) → table_in (column_records k ts) t ≡ []
below k t h [] = refl
below k t h (bs ∷ ts) = of_other k t (λ e. omega arith) bs _ ∙ below (suc k) t (omega arith) ts

table_at : (k i : ℕ) (ts : List Table) → table_in (column_records k ts) (k + i) ≡ get_or ts i []
table_at k i [] = refl
table_at k zero (bs ∷ ts) = rw add-zero (of_table k bs _ ∙ rw (below (suc k) k (omega arith) ts) (append-nil bs))
table_at k (suc i) (bs ∷ ts) =
    let e : k + suc i ≡ suc k + i = omega arith in
    of_other k (k + suc i) (λ p. omega arith) bs _ ∙ rw e (table_at (suc k) i ts)

tables_back : (ts : List Table) → length ts ≤ 4 → map (table_in (column_records 0 ts)) (take (length ts) table_numbers) ≡ ts
tables_back [] h = refl
tables_back (a ∷ []) h = rw (table_at 0 0 (a ∷ []))
tables_back (a ∷ b ∷ []) h = rw (table_at 0 0 (a ∷ b ∷ []), table_at 0 1 (a ∷ b ∷ []))
tables_back (a ∷ b ∷ c ∷ []) h = let ts = a ∷ b ∷ c ∷ [] in rw (table_at 0 0 ts, table_at 0 1 ts, table_at 0 2 ts)
tables_back (a ∷ b ∷ c ∷ d ∷ []) h = let ts = a ∷ b ∷ c ∷ d ∷ [] in rw (table_at 0 0 ts, table_at 0 1 ts, table_at 0 2 ts, table_at 0 3 ts)
tables_back (a ∷ b ∷ c ∷ d ∷ e ∷ ts) h = absurd (omega arith)

-- ---- expressions
side_back : (a : Against) → side_of (side_number a) (side_value a) ≡ a
side_back (column c) = rw (ne_eqb (suc c) 0 (λ e. omega arith), sub-one)
side_back (number v) = refl

comparison_back : (k : model.Comparison) → comparison_of (comparison_record k) ≡ k
comparison_back k = rw (op_number k.op, side_back k.right)

clause_back : (c : model.Clause) → clause_of (clause_record c) ≡ c
clause_back c =
    rw (take_padded 6 no_comparison (map comparison_record c) (length c) (rw (length-map c comparison_record)))
    (map_back comparison_record comparison_of comparison_back c)

pub condition_back : (k : model.Condition) → condition_of (condition_record k) ≡ k
condition_back k =
    rw (take_padded 4 no_clause (map clause_record k) (length k) (rw (length-map k clause_record))) (map_back clause_record clause_of clause_back k)

pub expression_back : (e : model.Expression) → expression_of (expression_record e) ≡ e
unfolding expression_of expression_record
expression_back e =
    rw (
      take_padded 4 0 e.used _ refl,
      take_padded 16 0 e.outputs _ refl,
      condition_back e.condition,
    )

-- ---- jobs
pub meaning_record : (j : model.Job) → length j.tables ≤ 4 → meaning_of (record_of j) ≡ j
unfolding job_of record_of
meaning_record j h =
    rw (
      take_padded 16 no_column (column_records 0 j.tables) (length (columns_of j.tables)) (rw (columns_length 0 j.tables)),
      tables_back j.tables h,
      expression_back j.extract,
      expression_back j.query,
    )
