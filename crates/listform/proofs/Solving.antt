-- What stands in the bytes of a list is what the solver asks for. Assumes nothing.
use mathlib.Core.Path.{◌≡◌, ◌∙◌, sym}
use mathlib.Core.Bool.{Bool, true, false, cond, ◌&&◌}
use mathlib.Core.List.{List, map}
use Prim.Native.Nat.{ℕ, zero, suc, ◌+◌, ◌-◌, ◌*◌, ◌^◌, ◌<◌, ◌≤◌}
use native.Mathlib.Omega.{arith}
use lib.ListN.{length, take, drop}
use lib.IntN.{ℤ, pos, negsuc}
use lib.Signed.{le_z}
use lib.Dec.{T, ltb, leb, le→leb, ltb→lt, lt→ltb}
use mir.Facts.{and_yes, yes_and}
use borrow.Author.Tests.{ne_eqb}
use Rattle.std.specs.List.{list_all}
use Rattle.base.specs.Lists.{all_of, tabulate}
use Rattle.base.specs.Options.{is_some}
use Rattle.base.proofs.Tests.{is_T, cond_less}
use Rattle.base.proofs.Places.{tabulate_length, map_tabulate}
use Rattle.words.specs.Word.{number_of, sign_bit, value_at}
use Rattle.model.specs.declared.Bounds.{Bounds}
use Rattle.model.specs.Least.{least_row}
use Rattle.job.specs.declared.Comparison.{Comparison}
use Rattle.job.specs.Meaning.{side_of, comparison_of}
use Rattle.solver.specs.Solver.{fits, bounds_fit, against_fits, comparison_fits}
use Rattle.solver.specs.Lists.{row_or_zeros}
use Rattle.solver.specs.Uses.{Solves}
use Rattle.listform.specs.Form.{first_bounds, first_comparison, bounds_in, comparisons_in, in_order, among, fitting, is_list, least, found_in}
use Rattle.listform.specs.declared.Found.TheVariants.{Unmet, Met, NoList}

-- ---- values
value_fits : (s : List ℕ) (k : ℕ) → T (fits (value_at 4 s k))
value_fits s k =
    let n = number_of (take 4 (drop k s)) in
    cond_less n (sign_bit 4) (pos n) (negsuc (256 ^ 4 - 1 - n)) (λ z. T (fits z))
    (λ h. le→leb n 1000000000000000 (omega arith))
    (λ h. yes_and (leb (256 ^ 4 - 1 - n) 999999999999999) true (le→leb (256 ^ 4 - 1 - n) 999999999999999 (omega arith)) tt)

side_fits : (n r : ℕ) (v : ℤ) → r < n + 1 → T (fits v) → T (against_fits n (side_of r v))
side_fits n zero v h f = f
side_fits n (suc r) v h f = rw (ne_eqb (suc r) 0 (λ e. omega arith)) (lt→ltb (suc r - 1) n (omega arith))

-- ---- the bounds and the comparisons of a list
first_fit : (s : List ℕ) → T (le_z (first_bounds s).lo (first_bounds s).hi) → T (bounds_fit (first_bounds s))
first_fit s t =
    let lo = value_at 4 s 0 in
    let hi = value_at 4 s 4 in
    yes_and (fits lo && fits hi) (le_z lo hi) (yes_and (fits lo) (fits hi) (value_fits s 0) (value_fits s 4)) t

-- lists that are given by what stands at each place, where what passes one test there passes another
all_too : {A B : Type 0} (p : A → Bool) (q : B → Bool) (f : ℕ → A) (g : ℕ → B) → ((i : ℕ) → T (p (f i)) → T (q (g i))) → (n : ℕ)
    → T (list_all p (tabulate n f)) → T (all_of q (tabulate n g))
all_too p q f g h zero t = tt
all_too p q f g h (suc n) t =
    let (a, b) = and_yes (p (f 0)) (list_all p (tabulate n (λ i. f (suc i)))) t in
    yes_and (q (g 0)) (all_of q (tabulate n (λ i. g (suc i)))) (h 0 a)
    (all_too p q (λ i. f (suc i)) (λ i. g (suc i)) (λ i. h (suc i)) n b)

comparison_fits_lem : (n : ℕ) (k : Comparison) → T (fits k.number) → T (ltb k.op 5 && (ltb k.left n && ltb k.right (n + 1)))
    → T (comparison_fits n (comparison_of k))
comparison_fits_lem n k f t =
    let (l, r) = and_yes (ltb k.left n) (ltb k.right (n + 1)) (and_yes (ltb k.op 5) (ltb k.left n && ltb k.right (n + 1)) t).1 in
    yes_and (ltb k.left n) (against_fits n (side_of k.right k.number)) l (side_fits n k.right k.number (ltb→lt k.right (n + 1) r) f)

module _ (n : ℕ) (s : List ℕ) where
  bounds_length : length (bounds_in n s) ≡ n
  unfolding bounds_in
  bounds_length = tabulate_length n (λ i. first_bounds (drop (i * 8) s))

  bounds_fitting : T (in_order (bounds_in n s)) → T (all_of bounds_fit (bounds_in n s))
  unfolding bounds_in
  bounds_fitting =
      let b = λ (i : ℕ). first_bounds (drop (i * 8) s) in
      all_too (λ b. le_z b.lo b.hi) bounds_fit b b (λ i. first_fit (drop (i * 8) s)) n

  comparisons_fitting : (m : ℕ) → T (among n (comparisons_in n m s)) → T (all_of (comparison_fits n) (map comparison_of (comparisons_in n m s)))
  unfolding comparisons_in
  comparisons_fitting m t =
      let at = λ (i : ℕ). drop (i * 7) (drop (n * 8) s) in
      let k = λ (i : ℕ). first_comparison (at i) in
      rw (map_tabulate comparison_of m k)
      (all_too (λ k. ltb k.op 5 && (ltb k.left n && ltb k.right (n + 1))) (comparison_fits n) k (λ i. comparison_of (k i))
      (λ i. comparison_fits_lem n (k i) (value_fits (at i) 3)) m t)

-- ---- what was read of the bytes
module _ (n m : ℕ) (s : List ℕ) {bs : List Bounds} {ks : List Comparison} (b : bs ≡ bounds_in n s) (k : ks ≡ comparisons_in n m s) where
  list_is : {fits : Bool} → fits ≡ fitting bs ks → is_list n m s ≡ fits
  unfolding is_list
  list_is {fits} e = sym (rw (b, k) at e)

  least_is : least_row bs (map comparison_of ks) ≡ least n m s
  unfolding least
  least_is = rw (b, k)

  size_is : length bs ≡ n
  size_is = rw b (bounds_length n s)

  -- it is what the solver asks for
  pub list_solves : {row : List ℤ} → fitting bs ks ≡ true → n ≤ 32 → length row ≡ n → Solves bs ks row
  list_solves is small room =
      let (o, t) = and_yes (in_order bs) (among (length bs) ks) (is_T is) in
      record {
        small = omega (arith, size_is);
        bounds = rw b (bounds_fitting n s (rw b at o));
        fit = rw (size_is, k) (comparisons_fitting n s m (rw (size_is, k) at t));
        room = room ∙ sym size_is;
      }

  -- what is found, by whether they fit and whether some row meets them
  module _ {fits : Bool} (is : fits ≡ fitting bs ks) where
    pub unlisted : fits ≡ false → NoList ≡ found_in n m s
    unfolding found_in
    unlisted out = rw (list_is is, out)

    pub listed : fits ≡ true → {some : Bool} → some ≡ is_some (least_row bs (map comparison_of ks)) → cond some Met Unmet ≡ found_in n m s
    unfolding found_in
    listed fit e = rw (list_is is, fit, ← least_is, e)

    -- and the row that is left: as it was, or the least
    pub row_kept : fits ≡ false → (row : List ℤ) → row ≡ cond (is_list n m s) (row_or_zeros n (least n m s)) row
    row_kept out row = rw (list_is is, out)

    pub row_least : fits ≡ true → {row : List ℤ} (old : List ℤ) → row ≡ row_or_zeros (length bs) (least_row bs (map comparison_of ks))
        → row ≡ cond (is_list n m s) (row_or_zeros n (least n m s)) old
    row_least fit old e = rw (list_is is, fit, ← least_is) (rw size_is at e)
