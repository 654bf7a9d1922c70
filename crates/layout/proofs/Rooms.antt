-- How many used tables and outputs there can be: tables ascend and outputs don't repeat, and both are below a number. Assumes nothing.
use mathlib.Core.Path.{◌≡◌, refl, sym}
use mathlib.Core.Bool.{Bool, true, false, not, cond, ◌||◌}
use mathlib.Core.List.{List, [], ◌∷◌}
use Prim.Native.Nat.{ℕ, zero, suc, ◌+◌, ◌≤◌, ◌<◌}
use native.Mathlib.Omega.{arith}
use lib.ListN.{length}
use lib.Dec.{T, eqb, ltb}
use mir.Facts.{and_yes, yes_and}
use borrow.Author.Tests.{lt-ltb, ltb-true, eqb-true, eqb-false}
use Rattle.layout.specs.Sound.{Begun}
use Rattle.base.specs.Lists.{any_of, all_of, filter}
use Rattle.base.proofs.Lists.{all_weaker}
use Rattle.base.proofs.Tests.{T-is, not_is}
use Rattle.model.specs.Tables.{Table, Expression, columns_of, table_of, uses}
use Rattle.model.specs.WellFormed.{ascending, no_repeats, in_scope}
use Rattle.layout.specs.Reading.{above_last}

-- ---- ascending numbers
ascending_past : (a : ℕ) (l : List ℕ) (t : ℕ) → T (ascending (a ∷ l)) → T (above_last (a ∷ l) t) → a + length (a ∷ l) ≤ t
ascending_past a [] t h k = omega (arith, ltb-true a t (T-is (ltb a t) k))
ascending_past a (b ∷ l) t h k =
    let (m, n) = and_yes (ltb a b) (ascending (b ∷ l)) h in
    omega (arith, ltb-true a b (T-is (ltb a b) m), ascending_past b l t n k)

pub ascending_room : (l : List ℕ) (t : ℕ) → T (ascending l) → T (above_last l t) → length l ≤ t
ascending_room [] t h k = omega arith
ascending_room (a ∷ l) t h k = omega (arith, ascending_past a l t h k)

below_above : (n : ℕ) (l : List ℕ) → T (all_of (λ t. ltb t n) l) → T (above_last l n)
below_above n [] h = tt
below_above n (a ∷ []) h = (and_yes (ltb a n) true h).0
below_above n (a ∷ b ∷ l) h = below_above n (b ∷ l) (and_yes (ltb a n) (all_of (λ t. ltb t n) (b ∷ l)) h).1

-- ---- numbers that don't repeat
neither : (a b : Bool) → (a || b) ≡ false → (a ≡ false) × (b ≡ false)
neither true b e = let z : ◌≡◌ {A = ℕ} 0 1 = cc in absurd (omega arith)
neither false b e = (refl, e)

filter_none : (q p : ℕ → Bool) (l : List ℕ) → any_of q l ≡ false → any_of q (filter p l) ≡ false
filter_none q p [] e = refl
filter_none q p (x ∷ l) e = let (f, g) = neither (q x) (any_of q l) e in go f (p x) (filter_none q p l g)
  where
    go : q x ≡ false → (b : Bool) → any_of q (filter p l) ≡ false → any_of q (cond b (x ∷ filter p l) (filter p l)) ≡ false
    go f true h = rw f h
    go f false h = h

filter_differ : (p : ℕ → Bool) (l : List ℕ) → T (no_repeats l) → T (no_repeats (filter p l))
filter_differ p [] h = tt
filter_differ p (x ∷ l) h =
    let (f, g) = and_yes (not (any_of (eqb x) l)) (no_repeats l) h in
    go (not_is (any_of (eqb x) l) f) (p x) (filter_differ p l g)
  where
    go : any_of (eqb x) l ≡ false → (b : Bool) → T (no_repeats (filter p l)) → T (no_repeats (cond b (x ∷ filter p l) (filter p l)))
    go f true k = rw (filter_none (eqb x) p l f) k
    go f false k = k

-- a number that isn't there isn't taken out
filter_kept : (n : ℕ) (l : List ℕ) → any_of (eqb n) l ≡ false → filter (λ x. not (eqb n x)) l ≡ l
filter_kept n [] e = refl
filter_kept n (x ∷ l) e = let (f, g) = neither (eqb n x) (any_of (eqb n) l) e in rw (f, filter_kept n l g)

-- one number is taken out once at most
filter_one : (n : ℕ) (l : List ℕ) → T (no_repeats l) → length l ≤ suc (length (filter (λ x. not (eqb n x)) l))
filter_one n [] h = omega arith
filter_one n (x ∷ l) h =
    let (f, g) = and_yes (not (any_of (eqb x) l)) (no_repeats l) h in
    go (eqb n x) refl (not_is (any_of (eqb x) l) f) (filter_one n l g)
  where
    rest : List ℕ
    rest = filter (λ y. not (eqb n y)) l

    go : (b : Bool) → eqb n x ≡ b → any_of (eqb x) l ≡ false → length l ≤ suc (length rest)
        → suc (length l) ≤ suc (length (cond (not b) (x ∷ rest) rest))
    go true e f k = let same : n ≡ x = eqb-true n x e in rw (filter_kept n l (rw same f)) (omega arith)
    go false e f k = omega arith

filter_below : (n : ℕ) (l : List ℕ) → T (all_of (λ x. ltb x (suc n)) l) → T (all_of (λ x. ltb x n) (filter (λ x. not (eqb n x)) l))
filter_below n [] h = tt
filter_below n (x ∷ l) h =
    let (f, g) = and_yes (ltb x (suc n)) (all_of (λ y. ltb y (suc n)) l) h in
    go (eqb n x) refl (ltb-true x (suc n) (T-is (ltb x (suc n)) f)) (filter_below n l g)
  where
    rest : List ℕ
    rest = filter (λ y. not (eqb n y)) l

    go : (b : Bool) → eqb n x ≡ b → x < suc n → T (all_of (λ y. ltb y n) rest) → T (all_of (λ y. ltb y n) (cond (not b) (x ∷ rest) rest))
    go true e l k = k
    go false e l k =
        let other : x ≡ n → ⊥ = λ q. eqb-false n x e (sym q) in
        rw (lt-ltb x n (omega arith)) k

-- as many places as there are numbers
pub few_numbers : (n : ℕ) (l : List ℕ) → T (no_repeats l) → T (all_of (λ x. ltb x n) l) → length l ≤ n
few_numbers zero [] h k = omega arith
few_numbers zero (x ∷ l) h k = absurd (omega (arith, ltb-true x 0 (T-is (ltb x 0) (and_yes (ltb x 0) (all_of (λ y. ltb y 0) l) k).0)))
few_numbers (suc n) l h k =
    let less : ℕ → Bool = λ x. not (eqb n x) in
    omega (arith, filter_one n l h, few_numbers n (filter less l) (filter_differ less l h) (filter_below n l k))

-- ---- expressions that have been read in part
module _ {ts : List Table} {last : ℕ} {e : Expression} (b : Begun ts last e) where
  pub used_fit : length e.used ≤ length ts
  used_fit = ascending_room e.used (length ts) b.ascends (below_above (length ts) e.used b.declared)

  pub used_room : (t : ℕ) → t < length ts → T (above_last e.used t) → length e.used < length ts
  used_room t h k = omega (arith, ascending_room e.used t b.ascends k)

  outputs_below : T (all_of (λ c. ltb c (length (columns_of ts))) e.outputs)
  outputs_below =
      all_weaker (in_scope ts e) (λ c. ltb c (length (columns_of ts)))
      (λ c h. (and_yes (ltb c (length (columns_of ts))) (uses e (table_of ts c)) h).0) e.outputs b.in_scope

  pub outputs_fit : length e.outputs ≤ length (columns_of ts)
  outputs_fit = few_numbers (length (columns_of ts)) e.outputs b.differ outputs_below

  pub outputs_room : (c : ℕ) → c < length (columns_of ts) → any_of (eqb c) e.outputs ≡ false → length e.outputs < length (columns_of ts)
  outputs_room c h f =
      few_numbers (length (columns_of ts)) (c ∷ e.outputs) (rw f b.differ)
      (yes_and (ltb c (length (columns_of ts))) (all_of (λ x. ltb x (length (columns_of ts))) e.outputs)
      (rw (lt-ltb c (length (columns_of ts)) h) tt) outputs_below)
