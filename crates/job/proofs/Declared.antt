-- The columns of a job's record: their tables and bounds are those of the job. Assumes nothing.
use mathlib.Core.Path.{◌≡◌, refl, sym, ap, ◌∙◌}
use mathlib.Core.Bool.{Bool, true, false, cond}
use mathlib.Core.List.{List, [], ◌∷◌, map, map-append}
use Prim.Native.Nat.{ℕ, zero, suc, ◌+◌, ◌-◌, ◌≤◌, ◌<◌}
use native.Mathlib.Nat.{add-zero, zero-add}
use native.Mathlib.Omega.{arith}
use lib.ListN.{length, get_or, take, length-append, length-map, get_or-append}
use lib.Seq.{get_or-append-add}
use lib.Dec.{ltb}
use borrow.Author.Tests.{ltb-true, ltb-false}
use Rattle.base.specs.Arrays.{padded}
use Rattle.base.proofs.Arrays.{take_padded, get_or_padded}
use Rattle.model.specs.Tables.{Table, columns_of, table_of}
use Rattle.job.specs.declared.Column.{Column}
use Rattle.job.specs.declared.Job.{Job}
use Rattle.job.specs.Record.{no_column}
use Rattle.job.specs.Meaning.{bounds_of, column_record, column_records, expression_record, meaning_of, record_of}
use Rattle.job.proofs.Meaning.{columns_length}

-- ---- tables
column_here : (t : ℕ) (bs : Table) (c : ℕ) (d : Column) → c < length bs → (get_or (map (column_record t) bs) c d).table ≡ t
column_here t [] c d h = absurd (omega arith)
column_here t (b ∷ bs) zero d h = refl
column_here t (b ∷ bs) (suc c) d h = column_here t bs c d (omega arith)

column_table : (t : ℕ) (ts : List Table) (c : ℕ) (d : Column) → c < length (columns_of ts)
    → (get_or (column_records t ts) c d).table ≡ t + table_of ts c
column_table t [] c d h = absurd (omega arith)
column_table t (bs ∷ ts) c d h = go (ltb c (length bs)) refl (column_table (suc t) ts (c - length bs) d)
  where
    front : List Column
    front = map (column_record t) bs

    go : (q : Bool) → ltb c (length bs) ≡ q
        → (c - length bs < length (columns_of ts) → (get_or (column_records (suc t) ts) (c - length bs) d).table ≡ suc t + table_of ts (c - length bs))
        → (get_or (column_records t (bs ∷ ts)) c d).table ≡ t + cond q zero (suc (table_of ts (c - length bs)))
    go true e f =
        let in-front : c < length front = rw (length-map bs (column_record t)) (ltb-true c (length bs) e) in
        rw (get_or-append front (column_records (suc t) ts) d c in-front, add-zero) (column_here t bs c d (ltb-true c (length bs) e))
    go false e f =
        let past : length bs ≤ c = ltb-false c (length bs) e in
        let place : length front + (c - length bs) ≡ c = rw (length-map bs (column_record t)) (omega arith) in
        ap (λ (k : Column). k.table) (rw place at (get_or-append-add front (column_records (suc t) ts) (c - length bs) d))
        ∙ f (omega (arith, length-append bs (columns_of ts))) ∙ omega arith

pub column_of : (ts : List Table) (c : ℕ) (d : Column) → c < length (columns_of ts) → (get_or (padded 16 no_column (column_records 0 ts)) c d).table ≡ table_of ts c
column_of ts c d h =
    ap (λ (k : Column). k.table) (get_or_padded 16 no_column (column_records 0 ts) c d (rw (columns_length 0 ts) h))
    ∙ column_table 0 ts c d h ∙ zero-add (table_of ts c)

-- ---- bounds
bounds_here : (t : ℕ) (bs : Table) → map bounds_of (map (column_record t) bs) ≡ bs
bounds_here t [] = refl
bounds_here t (b ∷ bs) = rw (bounds_here t bs)

bounds_back : (t : ℕ) (ts : List Table) → map bounds_of (column_records t ts) ≡ columns_of ts
bounds_back t [] = refl
bounds_back t (bs ∷ ts) = rw (map-append bounds_of (map (column_record t) bs) (column_records (suc t) ts), bounds_here t bs, bounds_back (suc t) ts)

-- ---- of a record that is the record of the job that it stands for
module _ (r : Job) (laid : record_of (meaning_of r) ≡ r) where
  abbrev ts : List Table
  ts = (meaning_of r).tables

  pub tables_are : r.declared.tables ≡ length ts
  unfolding record_of
  tables_are = ap (λ (x : Job). x.declared.tables) (sym laid)

  pub width_is : r.declared.width ≡ length (columns_of ts)
  unfolding record_of
  width_is = ap (λ (x : Job). x.declared.width) (sym laid)

  pub columns_are : r.declared.columns ≡ padded 16 no_column (column_records 0 ts)
  unfolding record_of
  columns_are = ap (λ (x : Job). x.declared.columns) (sym laid)

  pub bounds_are : map bounds_of (take r.declared.width r.declared.columns) ≡ columns_of ts
  bounds_are =
      ap (λ (cs : List Column). map bounds_of (take r.declared.width cs)) columns_are
      ∙ ap (map bounds_of) (take_padded 16 no_column (column_records 0 ts) r.declared.width (width_is ∙ sym (columns_length 0 ts)))
      ∙ bounds_back 0 ts

  pub table_is : (c : ℕ) (d : Column) → c < r.declared.width → (get_or r.declared.columns c d).table ≡ table_of ts c
  table_is c d h =
      ap (λ (cs : List Column). (get_or cs c d).table) columns_are ∙ column_of ts c d (omega (arith, width_is))

  pub extract_is : r.extract ≡ expression_record (meaning_of r).extract
  unfolding record_of
  extract_is = ap (λ (x : Job). x.extract) (sym laid)

  pub query_is : r.query ≡ expression_record (meaning_of r).query
  unfolding record_of
  query_is = ap (λ (x : Job). x.query) (sym laid)
