-- Databases made of a row: which they are, and that they are tidy. Assumes nothing.
use mathlib.Core.Path.{◌≡◌, refl, sym, ap, ◌∙◌}
use mathlib.Core.Bool.{Bool, true, false, cond, ◌&&◌}
use mathlib.Core.List.{List, [], ◌∷◌, map}
use Prim.Native.Nat.{ℕ, zero, suc, ◌+◌, ◌-◌, ◌<◌, ◌≤◌}
use native.Mathlib.Omega.{arith}
use lib.ListN.{length, get_or, take, drop, length-append, length-take, length-drop, get_or-eq_default}
use lib.Seq.{get_or-take, get_or-drop, ext_get_or}
use lib.IntN.{ℤ, pos}
use borrow.Author.Tests.{lt-ltb, le-ltb}
use Rattle.base.proofs.Places.{map_at}
use Rattle.base.proofs.Arrays.{padded_past, entries_at, entries_length, entries_past}
use Rattle.base.proofs.Tests.{by_less}
use Rattle.model.proofs.Formed.{Formed}
use Rattle.model.specs.Tables as model
use Rattle.model.specs.Tables.{Table, Row, TableRow, columns_of, table_of, uses, value, part_of}
use Rattle.model.specs.Verdict.{columns, uses_other}
use Rattle.model.specs.Pair.{row_database, reduced_database}
use Rattle.model.proofs.Scope.{used_declared}
use Rattle.job.specs.declared.Columns.{Columns}
use Rattle.job.specs.declared.Expression.{Expression}
use Rattle.job.specs.declared.Job.{Job}
use Rattle.job.specs.Meaning.{table_numbers, job_of, problem, record_of}
use Rattle.job.proofs.Meaning.{table_number}
use Rattle.job.proofs.Declared.{tables_are, width_is, table_is}
use Rattle.job.proofs.Counts.{tables_fit}
use Rattle.databases.specs.declared.Database.{Database}
use Rattle.databases.specs.Databases.{no_database, database_of, table_at, TidyDatabase, value_in}
use Rattle.databases.specs.Databases.{database_record, present_in, row_record, reduced_record}

-- ---- rows that agree in the columns of a table have the same part there
same_part : (ts : List Table) (t : ℕ) (xs ys : Row) → length xs ≡ length ys
    → ((c : ℕ) → c < length (columns_of ts) → table_of ts c ≡ t → value xs c ≡ value ys c) → part_of ts xs t ≡ part_of ts ys t
same_part [] t xs ys l h = refl
same_part (b ∷ bs) zero xs ys l h =
    ext_get_or (pos 0) (take (length b) xs) (take (length b) ys)
    (omega (arith, length-take (length b) xs, length-take (length b) ys)) (λ c k.
    let i : c < length b = omega (arith, length-take (length b) xs) in
    get_or-take (length b) xs c (pos 0) i ∙ h c (omega (arith, length-append b (columns_of bs))) (rw (lt-ltb c (length b) i))
    ∙ sym (get_or-take (length b) ys c (pos 0) i))
same_part (b ∷ bs) (suc t) xs ys l h =
    same_part bs t (drop (length b) xs) (drop (length b) ys)
    (omega (arith, length-drop (length b) xs, length-drop (length b) ys)) (λ c k e.
    let back : length b + c - length b ≡ c = omega arith in
    get_or-drop (length b) xs c (pos 0)
    ∙ h (length b + c) (omega (arith, length-append b (columns_of bs))) (rw (le-ltb (length b + c) (length b) (omega arith), back, e))
    ∙ sym (get_or-drop (length b) ys c (pos 0)))

-- ---- the tables that both expressions use
module _ (e f : model.Expression) where
  present_at : (t : ℕ) → t < 4 → get_or (present_in e f) t false ≡ (uses e t && uses f t)
  unfolding present_in
  present_at t h = map_at (λ t. uses e t && uses f t) table_numbers t 0 false h ∙ ap (λ (t : ℕ). uses e t && uses f t) (table_number t h)

  present_past : (t : ℕ) → 4 ≤ t → get_or (present_in e f) t false ≡ false
  unfolding present_in
  present_past t h = get_or-eq_default (map (λ t. uses e t && uses f t) table_numbers) false h

  module _ (ts : List Table) (formed : Formed ts e) where
    not_used : (t : ℕ) → length ts ≤ t → uses e t ≡ false
    not_used t h = go (uses e t) refl
      where
        go : (b : Bool) → uses e t ≡ b → b ≡ false
        go true i = let k = used_declared e ts formed t (rw i tt) in let z : ⊥ = omega arith in absurd z
        go false i = refl

    -- an undeclared table isn't among them
    present_declared : (t : ℕ) → length ts ≤ t → get_or (present_in e f) t false ≡ false
    present_declared t h = by_less t 4 (λ l. present_at t l ∙ rw (not_used t h)) (present_past t)

    present_is : length ts ≤ 4 → (t : ℕ) → get_or (present_in e f) t false ≡ (uses e t && uses f t)
    present_is few t = by_less t 4 (present_at t) (λ l. present_past t l ∙ rw (not_used t (omega arith)))

-- ---- no row at all
none_present : (t : ℕ) → get_or no_database.present t false ≡ false
none_present t = padded_past 4 false [] t (omega arith)

none_value : (c : ℕ) → value no_database.values c ≡ pos 0
none_value c = padded_past 16 (pos 0) [] c (omega arith)

pub none_is : (j : model.Job) (t : ℕ) → database_of j no_database t ≡ []
unfolding database_of
none_is j t = rw (none_present t)

pub none_tidy : (k : Columns) → TidyDatabase k no_database
none_tidy k = record { undeclared = λ t h. none_present t; absent = λ c h e. none_value c; past = λ c h. none_value c }

-- ---- of columns and expressions that are those of the record of the job that they stand for
module _ (k : Columns) (extract query : Expression) (laid : record_of (job_of k extract query) ≡ problem k extract query)
    (few : k.width ≤ 16) where
  abbrev r : Job
  r = problem k extract query

  abbrev j : model.Job
  j = job_of k extract query

  abbrev n : ℕ
  n = length (columns j)

  module _ (ps : List Bool) (row : List ℤ) where
    abbrev d : Database
    d = database_record k ps row

    value_at_lem : (c : ℕ) → c < k.width → value d.values c ≡ value_in k.columns ps row c
    unfolding database_record
    value_at_lem c h = entries_at 16 (pos 0) k.width (value_in k.columns ps row) c (pos 0) h

    value_past : (c : ℕ) → k.width ≤ c → value d.values c ≡ pos 0
    unfolding database_record
    value_past c h = entries_past 16 (pos 0) k.width (value_in k.columns ps row) c h

    values_length : length d.values ≡ 16
    unfolding database_record
    values_length = entries_length 16 (pos 0) k.width (value_in k.columns ps row) few

    part_kept : length row ≡ 16 → (t : ℕ) → get_or ps t false ≡ true
        → part_of j.tables (take n d.values) t ≡ part_of j.tables (take n row) t
    part_kept full t p =
        same_part j.tables t (take n d.values) (take n row)
        (omega (arith, length-take n d.values, length-take n row, values_length)) (λ c h e.
        let i : c < k.width = omega (arith, width_is r laid) in
        let there : get_or ps (table_at k.columns c) false ≡ true = ap (λ (s : ℕ). get_or ps s false) (table_is r laid c _ i ∙ e) ∙ p in
        get_or-take n d.values c (pos 0) h ∙ value_at_lem c i ∙ ap (λ (b : Bool). cond b (value row c) (pos 0)) there
        ∙ sym (get_or-take n row c (pos 0) h))

    -- the row's part in each table that is present
    database_is : length row ≡ 16 → (t : ℕ) → database_of j d t ≡ cond (get_or ps t false) (part_of j.tables (take n row) t ∷ []) []
    unfolding database_of database_record
    database_is full t = go (get_or ps t false) refl
      where
        go : (b : Bool) → get_or ps t false ≡ b
            → cond b (part_of j.tables (take n d.values) t ∷ []) [] ≡ cond b (part_of j.tables (take n row) t ∷ []) []
        go true e = ap (λ (x : TableRow). x ∷ []) (part_kept full t e)
        go false e = refl

    database_tidy : ((t : ℕ) → k.tables ≤ t → get_or ps t false ≡ false) → TidyDatabase k d
    unfolding database_record
    database_tidy declared = record {
      undeclared = declared;
      absent = λ c h e. value_at_lem c h ∙ rw e;
      past = value_past;
    }

  -- ---- the databases that are made of a row
  module _ (formed : Formed j.tables j.query) (row : List ℤ) where
    abbrev values : Row
    values = take n row

    abbrev part : ℕ → TableRow
    part t = part_of j.tables values t

    -- the tables that the query and f use
    module _ (f : model.Expression) where
      used_tidy : TidyDatabase k (database_record k (present_in j.query f) row)
      used_tidy = database_tidy (present_in j.query f) row (λ t h.
          present_declared j.query f j.tables formed t (omega (arith, tables_are r laid)))

      used_is : length row ≡ 16 → (t : ℕ)
          → database_of j (database_record k (present_in j.query f) row) t ≡ cond (uses j.query t && uses f t) (part t ∷ []) []
      used_is full t =
          database_is (present_in j.query f) row full t
          ∙ ap (λ (b : Bool). cond b (part t ∷ []) [])
          (present_is j.query f j.tables formed (omega (arith, tables_are r laid, tables_fit r laid)) t)

    pub row_tidy : TidyDatabase k (row_record k query row)
    unfolding row_record job_of
    row_tidy = used_tidy j.query

    pub row_is : length row ≡ 16 → (t : ℕ) → database_of j (row_record k query row) t ≡ row_database j values t
    unfolding row_record row_database job_of
    row_is full t = used_is j.query full t ∙ ap (λ (b : Bool). cond b (part t ∷ []) []) (twice (uses j.query t))
      where
        twice : (b : Bool) → (b && b) ≡ b
        twice true = refl
        twice false = refl

    -- said of the test, whichever way it went
    abbrev reduced : Bool → Database
    reduced b = cond b (database_record k (present_in j.query j.extract) row) no_database

    reduced_either : (b : Bool) → TidyDatabase k (reduced b)
    reduced_either true = used_tidy j.extract
    reduced_either false = none_tidy k

    reduced_each : length row ≡ 16 → (t : ℕ) (b : Bool)
        → database_of j (reduced b) t ≡ cond (b && uses j.extract t) (cond (uses j.query t) (part t ∷ []) []) []
    reduced_each full t true = used_is j.extract full t ∙ turned (uses j.query t) (uses j.extract t)
      where
        turned : (a b : Bool) → cond (a && b) (part t ∷ []) [] ≡ cond b (cond a (part t ∷ []) []) []
        turned true true = refl
        turned true false = refl
        turned false true = refl
        turned false false = refl
    reduced_each full t false = none_is j t

    pub reduced_tidy : TidyDatabase k (reduced_record k extract query row)
    unfolding reduced_record job_of
    reduced_tidy = reduced_either (uses_other j.query j.extract)

    pub reduced_is : length row ≡ 16 → (t : ℕ) → database_of j (reduced_record k extract query row) t ≡ reduced_database j values t
    unfolding reduced_record reduced_database row_database job_of
    reduced_is full t = reduced_each full t (uses_other j.query j.extract)
