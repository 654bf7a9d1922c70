-- The counts of a record are no more than its arrays hold. Assumes nothing.
use mathlib.Core.Path.{◌≡◌, refl, ap}
use mathlib.Core.Bool.{Bool, true, false, cond}
use mathlib.Core.List.Memᴰ
use mathlib.Core.List.{List, [], ◌∷◌, map}
use Prim.Native.Nat.{ℕ, zero, suc, ◌-◌, ◌<◌, ◌≤◌}
use native.Mathlib.Omega.{arith}
use lib.ListN.{length, get_or, take, replicate, length-append, length-map, length-take}
use lib.Dec.{ltb}
use borrow.Author.Tests.{ltb-false}
use Rattle.base.specs.Arrays.{padded}
use Rattle.base.proofs.Arrays.{padded_each}
use Rattle.model.specs.Tables as model
use Rattle.model.specs.Tables.{Table, columns_of, table_of}
use Rattle.job.specs.declared.Column.{Column}
use Rattle.job.specs.declared.Clause.{Clause}
use Rattle.job.specs.declared.Condition.{Condition}
use Rattle.job.specs.declared.Expression.{Expression}
use Rattle.job.specs.declared.Job.{Job}
use Rattle.job.specs.Record.{no_column, no_comparison, no_clause}
use Rattle.job.specs.Meaning.{table_in, table_numbers, comparison_record, clause_record, condition_record, column_records, expression_record, job_of, meaning_of, record_of}
use Rattle.job.proofs.Meaning.{columns_length}
use Rattle.job.proofs.Declared.{tables_are, width_is, columns_are, table_is}
use Rattle.job.proofs.Records.{Sixes, SizedCondition, SizedExpression, Sized}

-- an array holds the list that is laid into it
padded_holds : {A : Type 0} (n : ℕ) (d : A) (l xs : List A) (m : ℕ) → xs ≡ padded n d l → length xs ≡ m → length l ≤ m
padded_holds n d l xs m is size =
    let long : length xs ≡ length (padded n d l) = ap (λ (ys : List _). length ys) is in
    omega (arith, length-append l (replicate (n - length l) d))

-- ---- a condition
module _ (e : model.Condition) (x : Condition) (is : x ≡ condition_record e) (size : SizedCondition x) where
  pub clauses_fit : x.size ≤ 4
  clauses_fit =
      let count : x.size ≡ length e = ap (λ (y : Condition). y.size) is in
      omega (
        arith,
        length-map e clause_record,
        padded_holds 4 no_clause (map clause_record e) x.clauses 4 (ap (λ (y : Condition). y.clauses) is) size.clauses,
      )

  abbrev none_at : Clause
  none_at = record { size = 0; comparisons = [] }

  -- a clause whose array holds six comparisons has no more
  abbrev Six : Clause → Type 0
  Six c = length c.comparisons ≡ 6 → c.size ≤ 6

  clause_six : (c : model.Clause) → Six (clause_record c)
  clause_six c h = omega (arith, length-map c comparison_record, padded_holds 6 no_comparison (map comparison_record c) (clause_record c).comparisons 6 refl h)

  sixes_at : (cs : List Clause) → Sixes cs → (q : ℕ) → q < length cs → length (get_or cs q none_at).comparisons ≡ 6
  sixes_at [] s q h = absurd (omega arith)
  sixes_at (c ∷ cs) s zero h = s.0
  sixes_at (c ∷ cs) s (suc q) h = sixes_at cs s.1 q (omega arith)

  each_six : (q : ℕ) → Six (get_or x.clauses q none_at)
  each_six q =
      rw is (padded_each Six no_clause none_at (λ h. omega arith) (λ h. omega arith) 4 (map clause_record e) (λ c m.
      let (k, j, p) = Memᴰ.of_map clause_record e m in
      rw (← p) (clause_six k)) q)

  pub comparisons_fit : (q : ℕ) → q < 4 → (get_or x.clauses q (record { size = 0; comparisons = [] })).size ≤ 6
  comparisons_fit q h = each_six q (sixes_at x.clauses size.comparisons q (omega (arith, size.clauses)))

-- ---- an expression
module _ (e : model.Expression) (x : Expression) (is : x ≡ expression_record e) (size : SizedExpression x) where
  pub used_fit : x.tables ≤ 4
  unfolding expression_record
  used_fit =
      let count : x.tables ≡ length e.used = ap (λ (y : Expression). y.tables) is in
      omega (arith, padded_holds 4 0 e.used x.used 4 (ap (λ (y : Expression). y.used) is) size.used)

  pub outputs_fit : x.width ≤ 16
  unfolding expression_record
  outputs_fit =
      let count : x.width ≡ length e.outputs = ap (λ (y : Expression). y.width) is in
      omega (arith, padded_holds 16 0 e.outputs x.outputs 16 (ap (λ (y : Expression). y.outputs) is) size.outputs)

  pub condition_is : x.condition ≡ condition_record e.condition
  unfolding expression_record
  condition_is = ap (λ (y : Expression). y.condition) is

-- ---- a job
table_below : (ts : List Table) (c : ℕ) → c < length (columns_of ts) → table_of ts c < length ts
table_below [] c h = absurd (omega arith)
table_below (b ∷ bs) c h = go (ltb c (length b)) refl (table_below bs (c - length b))
  where
    go : (q : Bool) → ltb c (length b) ≡ q → (c - length b < length (columns_of bs) → table_of bs (c - length b) < length bs)
        → cond q zero (suc (table_of bs (c - length b))) < suc (length bs)
    go true e f = omega arith
    go false e f = omega (arith, f (omega (arith, length-append b (columns_of bs), ltb-false c (length b) e)))

module _ (r : Job) (laid : record_of (meaning_of r) ≡ r) where
  pub tables_fit : r.declared.tables ≤ 4
  unfolding job_of
  tables_fit =
      omega (arith, tables_are r laid, length-map (take r.declared.tables table_numbers) (table_in (take r.declared.width r.declared.columns)), length-take r.declared.tables table_numbers)

  pub tables_below : (c : ℕ) (d : Column) → c < r.declared.width → (get_or r.declared.columns c d).table < 4
  tables_below c d h = omega (arith, table_is r laid c d h, table_below (meaning_of r).tables c (omega (arith, width_is r laid)), tables_are r laid, tables_fit)

  pub width_fits : Sized r → r.declared.width ≤ 16
  width_fits size =
      omega (
        arith,
        width_is r laid,
        columns_length 0 (meaning_of r).tables,
        padded_holds 16 no_column (column_records 0 (meaning_of r).tables) r.declared.columns 16 (columns_are r laid) size.columns,
      )
