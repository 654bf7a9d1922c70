-- The record of a job with one entry more. Assumes nothing.
use mathlib.Core.Path.{◌≡◌, refl, ap, ◌∙◌}
use mathlib.Core.Bool.{Bool, true, false, not, cond}
use mathlib.Core.List.{List, [], ◌∷◌, ◌++◌, map, append_assoc, append-nil}
use Prim.Native.Nat.{ℕ, zero, suc, ◌+◌, ◌-◌, ◌<◌}
use native.Mathlib.Nat.{add-zero, zero-add}
use native.Mathlib.Omega.{arith}
use lib.ListN.{length, get_or, set, length-append, length-map}
use lib.Dec.{T}
use Rattle.base.specs.Lists.{is_empty, last_of, in_last}
use Rattle.base.specs.Arrays.{padded}
use Rattle.base.proofs.Lists.{map_snoc, length_last, concat_more, concat_last}
use Rattle.base.proofs.Arrays.{get_or_padded, set_padded, padded_more, padded_same}
use Rattle.model.specs.Tables as model
use Rattle.model.specs.Tables.{Table, columns_of}
use Rattle.model.specs.declared.Bounds.{Bounds}
use Rattle.job.specs.declared.Condition.{Condition}
use Rattle.job.specs.Record.{no_column, no_comparison, no_clause}
use Rattle.job.specs.Meaning.{column_record, column_records, comparison_record, clause_record, condition_record, expression_record, record_of}
use Rattle.job.proofs.Meaning.{columns_length}
use Rattle.layout.specs.Reading.{with_used, with_output, with_condition, with_tables, with_current}
use Rattle.commands.specs.Uses.{current_in, placed, table_more, column_more, used_more, output_more, conditioned}
use Rattle.commands.specs.Uses.{clause_more, with_comparison, comparison_more, last_clause}

-- ---- the last of some lists
module _ {A B : Type 0} (f : List A → B) where
  pub last_at : (k : List (List A)) (i : ℕ) (d : B) → suc i ≡ length k → get_or (map f k) i d ≡ f (last_of k)
  last_at [] i d e = absurd (omega arith)
  last_at (x ∷ []) zero d e = refl
  last_at (x ∷ []) (suc i) d e = absurd (omega arith)
  last_at (x ∷ y ∷ k) zero d e = absurd (omega arith)
  last_at (x ∷ y ∷ k) (suc i) d e = last_at (y ∷ k) i d (omega arith)

  pub set_last : (k : List (List A)) (i : ℕ) (a : A) → suc i ≡ length k → set (map f k) i (f (last_of k ++ a ∷ [])) ≡ map f (in_last k a)
  set_last [] i a e = absurd (omega arith)
  set_last (x ∷ []) zero a e = refl
  set_last (x ∷ []) (suc i) a e = absurd (omega arith)
  set_last (x ∷ y ∷ k) zero a e = absurd (omega arith)
  set_last (x ∷ y ∷ k) (suc i) a e = ap (λ (m : List B). f x ∷ m) (set_last (y ∷ k) i a (omega arith))

pub filled : {A : Type 0} (l : List A) (i : ℕ) → suc i ≡ length l → T (not (is_empty l))
filled [] i e = absurd (omega arith)
filled (x ∷ l) i e = tt

-- ---- columns
columns_none : (t : ℕ) (ts : List Table) → column_records t (ts ++ [] ∷ []) ≡ column_records t ts
columns_none t [] = refl
columns_none t (bs ∷ ts) = rw (columns_none (suc t) ts)

columns_last : (t n : ℕ) (ts : List Table) (b : Bounds) → suc n ≡ length ts
    → column_records t (in_last ts b) ≡ column_records t ts ++ column_record (t + n) b ∷ []
columns_last t n [] b e = absurd (omega arith)
columns_last t zero (bs ∷ []) b e = rw (map_snoc (column_record t) bs b, append-nil, append-nil, add-zero)
columns_last t (suc n) (bs ∷ []) b e = absurd (omega arith)
columns_last t zero (bs ∷ cs ∷ ts) b e = absurd (omega arith)
columns_last t (suc n) (bs ∷ cs ∷ ts) b e =
    let m : t + suc n ≡ suc t + n = omega arith in
    rw (m, columns_last (suc t) n (cs ∷ ts) b (omega arith), append_assoc (map (column_record t) bs))

-- ---- one entry more
pub table_laid : (j : model.Job) → table_more (record_of j) ≡ record_of (with_tables j (j.tables ++ [] ∷ []))
unfolding record_of
table_laid j = rw (length-append j.tables ([] ∷ []), concat_more j.tables, columns_none 0 j.tables)

columns_more : (ts : List Table) (b : Bounds) (n : ℕ) → suc n ≡ length ts → length (columns_of ts) < 16
    → set (padded 16 no_column (column_records 0 ts)) (length (columns_of ts)) (column_record n b)
    ≡ padded 16 no_column (column_records 0 (in_last ts b))
columns_more ts b n e h =
    let room : length (column_records 0 ts) < 16 = rw (columns_length 0 ts) h in
    rw (columns_last 0 n ts b e, zero-add n, ← columns_length 0 ts) (padded_more 16 no_column (column_records 0 ts) (column_record n b) room)

pub column_laid : (j : model.Job) (b : Bounds) (n : ℕ) → suc n ≡ length j.tables → length (columns_of j.tables) < 16
    → column_more (record_of j) (column_record n b) ≡ record_of (with_tables j (in_last j.tables b))
unfolding record_of
column_laid j b n e h =
    rw (
      columns_more j.tables b n e h,
      length_last j.tables b,
      concat_last j.tables b (filled j.tables n e),
      length-append (columns_of j.tables) (b ∷ []),
    )

pub used_laid : (e : model.Expression) (t : ℕ) → length e.used < 4 → used_more (expression_record e) t ≡ expression_record (with_used e t)
unfolding expression_record
used_laid e t h = rw (padded_more 4 0 e.used t h, length-append e.used (t ∷ []))

pub output_laid : (e : model.Expression) (c : ℕ) → length e.outputs < 16
    → output_more (expression_record e) c ≡ expression_record (with_output e c)
unfolding expression_record
output_laid e c h = rw (padded_more 16 0 e.outputs c h, length-append e.outputs (c ∷ []))

pub condition_laid : (e : model.Expression) (k : Condition) (c : model.Condition) → k ≡ condition_record c
    → conditioned (expression_record e) k ≡ expression_record (with_condition e c)
unfolding expression_record
condition_laid e k c q = rw q

pub clause_laid : (k : model.Condition) → length k < 4 → clause_more (condition_record k) ≡ condition_record (k ++ [] ∷ [])
clause_laid k h =
    rw (
      length-append k ([] ∷ []),
      map_snoc clause_record k [],
      padded_same 4 no_clause (map clause_record k) (rw (length-map k clause_record) h),
    )

longer_laid : (c : model.Clause) (k : model.Comparison) → length c < 6
    → with_comparison (clause_record c) (comparison_record k) ≡ clause_record (c ++ k ∷ [])
longer_laid c k h =
    rw (
      length-append c (k ∷ []),
      map_snoc comparison_record c k,
      ← padded_more 6 no_comparison (map comparison_record c) (comparison_record k) (rw (length-map c comparison_record) h),
      length-map c comparison_record,
    )

module _ (k : model.Condition) (i : ℕ) (some : suc i ≡ length k) where
  below : i < length (map clause_record k)
  below = rw (length-map k clause_record) (omega arith)

  place : length k - 1 ≡ i
  place = omega arith

  pub last_laid : last_clause (condition_record k) ≡ clause_record (last_of k)
  last_laid = rw place (get_or_padded 4 no_clause (map clause_record k) i _ below ∙ last_at clause_record k i _ some)

  pub comparison_laid : (c : model.Comparison) → length (last_of k) < 6
      → comparison_more (condition_record k) (comparison_record c) ≡ condition_record (in_last k c)
  comparison_laid c h =
      rw (
        last_laid,
        place,
        longer_laid (last_of k) c h,
        length_last k c,
        set_padded 4 no_clause (map clause_record k) i (clause_record (last_of k ++ c ∷ [])) below,
        set_last clause_record k i c some,
      )

-- ---- the current expression
pub current_laid : (q : Bool) (j : model.Job) → current_in q (record_of j) ≡ expression_record (cond q j.query j.extract)
unfolding record_of
current_laid true j = refl
current_laid false j = refl

pub placed_laid : (q : Bool) (j : model.Job) (e : model.Expression)
    → placed q (record_of j) (expression_record e) ≡ record_of (with_current q j e)
unfolding record_of
placed_laid true j e = refl
placed_laid false j e = refl
