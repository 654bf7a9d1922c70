-- A condition whose columns are named anew in the record is named anew. Assumes nothing.
use mathlib.Core.Path.{◌≡◌, refl, ◌∙◌}
use mathlib.Core.List.Memᴰ
use mathlib.Core.List.{List, [], ◌∷◌, map}
use Prim.Native.Nat.{ℕ, zero, suc, ◌+◌, ◌-◌, ◌<◌, ◌≤◌}
use native.Mathlib.Omega.{arith}
use lib.ListN.{length, get_or, take}
use lib.IntN.{ℤ}
use lib.Dec.{T, ltb, ltb→lt}
use mir.Facts.{and_yes}
use borrow.Author.Tests.{ne_eqb}
use Rattle.base.specs.Lists.{all_of, at}
use Rattle.base.proofs.Lists.{all_has}
use Rattle.base.proofs.Arrays.{padded_each}
use Rattle.model.specs.Tables as model
use Rattle.model.specs.Tables.{Against, column, number}
use Rattle.model.specs.declared.Bounds.{Bounds}
use Rattle.job.specs.Meaning.{side_of, side_number}
use Rattle.solver.specs.Solver.{against_fits, comparison_fits}
use Rattle.job.specs.declared.Comparison.{Comparison}
use Rattle.job.specs.declared.Clause.{Clause}
use Rattle.job.specs.declared.Condition.{Condition}
use Rattle.job.specs.Record.{no_comparison, no_clause}
use Rattle.job.specs.Meaning.{comparison_of, clause_of, condition_of, comparison_record, clause_record, condition_record}
use Rattle.twins.specs.Twins.{twin_of, renamed_side, renamed_comparison, renamed}
use Rattle.twins.specs.Records.{renamed_right, renamed_one, renamed_clause, renamed_condition, twins_record}
use Rattle.twins.specs.Uses.{Compares, ComparesAll}
use Rattle.twins.proofs.Twinned.{twin_at}

-- ---- the record
module _ (twin : List ℕ) where
  side_renamed : (r : ℕ) (v : ℤ) → side_of (renamed_right twin r) v ≡ renamed_side (at twin) (side_of r v)
  side_renamed zero v = refl
  side_renamed (suc r) v =
      let back : at twin (suc r - 1) + 1 - 1 ≡ at twin (suc r - 1) = omega arith in
      rw (ne_eqb (suc r) 0 (λ e. omega arith), ne_eqb (at twin (suc r - 1) + 1) 0 (λ e. omega arith), back)

  comparisons_renamed : (ks : List Comparison) (n : ℕ) → map comparison_of (take n (map (renamed_one twin) ks)) ≡ map (renamed_comparison (at twin)) (map comparison_of (take n ks))
  comparisons_renamed ks zero = refl
  comparisons_renamed [] (suc n) = refl
  comparisons_renamed (k ∷ ks) (suc n) = rw (side_renamed k.right k.number, comparisons_renamed ks n)

  clauses_renamed : (cs : List Clause) (n : ℕ) → map clause_of (take n (map (renamed_clause twin) cs)) ≡ map (map (renamed_comparison (at twin))) (map clause_of (take n cs))
  clauses_renamed cs zero = refl
  clauses_renamed [] (suc n) = refl
  clauses_renamed (c ∷ cs) (suc n) = rw (comparisons_renamed c.comparisons c.size, clauses_renamed cs n)

  pub condition_renamed : (k : Condition) → condition_of (renamed_condition twin k) ≡ renamed (at twin) (condition_of k)
  unfolding renamed_condition renamed
  condition_renamed k = clauses_renamed k.clauses k.size

-- ---- the same names
module _ (n : ℕ) (f g : ℕ → ℕ) (same : (c : ℕ) → c < n → f c ≡ g c) where
  side_cong : (a : Against) → T (against_fits n a) → renamed_side f a ≡ renamed_side g a
  side_cong (column c) h = rw (same c (ltb→lt c n h))
  side_cong (number v) h = refl

  clause_cong : (c : model.Clause) → T (all_of (comparison_fits n) c) → map (renamed_comparison f) c ≡ map (renamed_comparison g) c
  clause_cong [] h = refl
  clause_cong (k ∷ c) h =
      let (i, t) = and_yes (comparison_fits n k) (all_of (comparison_fits n) c) h in
      let (l, a) = and_yes (ltb k.left n) (against_fits n k.right) i in
      rw (same k.left (ltb→lt k.left n l), side_cong k.right a, clause_cong c t)

  pub renamed_cong : (k : model.Condition) → T (all_of (all_of (comparison_fits n)) k) → renamed f k ≡ renamed g k
  unfolding renamed
  renamed_cong [] h = refl
  renamed_cong (c ∷ k) h =
      let (i, t) = and_yes (all_of (comparison_fits n) c) (all_of (all_of (comparison_fits n)) k) h in
      rw (clause_cong c i, renamed_cong k t)

-- ---- the second of two rows
pub twins_renamed : (bs : List Bounds) (stored : List ℕ) (k : Condition) → T (all_of (all_of (comparison_fits (length bs))) (condition_of k))
    → condition_of (renamed_condition (twins_record bs stored).twin k) ≡ renamed (twin_of (length bs) stored) (condition_of k)
twins_renamed bs stored k h =
    condition_renamed (twins_record bs stored).twin k
    ∙ renamed_cong (length bs) (at (twins_record bs stored).twin) (twin_of (length bs) stored) (twin_at bs stored) (condition_of k) h

-- ---- a condition of columns that there can be
module _ (n : ℕ) (few : n ≤ 16) where
  side_compares : (a : Against) → T (against_fits n a) → side_number a ≤ 16
  side_compares (column c) h = omega (arith, ltb→lt c n h)
  side_compares (number v) h = omega arith

  clause_compares : (c : model.Clause) → T (all_of (comparison_fits n) c) → ComparesAll (clause_record c)
  clause_compares c h i l =
      padded_each Compares no_comparison no_comparison (record { left = omega arith; right = omega arith }) (record { left = omega arith; right = omega arith })
      6 (map comparison_record c) (λ x m.
      let (k, j, e) = Memᴰ.of_map comparison_record c m in
      let (b, a) = and_yes (ltb k.left n) (against_fits n k.right) (all_has (comparison_fits n) j h) in
      rw (← e) (record { left = omega (arith, ltb→lt k.left n b); right = side_compares k.right a }))
      i

  pub compares : (k : model.Condition) → T (all_of (all_of (comparison_fits n)) k) → (x : Condition) → x ≡ condition_record k
      → (q : ℕ) → q < 4 → ComparesAll (get_or x.clauses q (record { size = 0; comparisons = [] }))
  compares k h x is q l =
      let none : ComparesAll (record { size = 0; comparisons = [] }) = λ i k. record { left = omega arith; right = omega arith } in
      rw is (padded_each ComparesAll no_clause (record { size = 0; comparisons = [] }) (clause_compares [] tt) none
      4 (map clause_record k) (λ c m.
      let (a, j, p) = Memᴰ.of_map clause_record k m in
      rw (← p) (clause_compares a (all_has (all_of (comparison_fits n)) j h)))
      q)
