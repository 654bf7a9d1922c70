-- Numbers that ascend or differ: one more of them, one among them. Assumes nothing.
use mathlib.Core.Path.{◌≡◌, refl, sym}
use mathlib.Core.Logic.{◌⊎◌, inl, inr}
use mathlib.Core.Bool.{true, not, ◌&&◌}
use mathlib.Core.List.Memᴰ
use mathlib.Core.List.{List, [], ◌∷◌, ◌++◌}
use Prim.Native.Nat.{ℕ, ◌≤◌}
use native.Mathlib.Omega.{arith}
use lib.ListN.{length}
use mir.Facts.{and_yes, yes_and, or_yes, or_no, no_eqb, eqb_no}
use lib.Dec.{T, T_not, not_T, eqb, ltb, leb, eqb→eq, eqb_refl, leb→le}
use Rattle.base.proofs.Lists.{has_any, none_snoc}
use Rattle.base.specs.Lists.{any_of, all_of, is_empty}
use Rattle.model.specs.WellFormed.{ascending, no_repeats}
use Rattle.layout.specs.Commands.{in_condition, ending}
use Rattle.layout.specs.Reading.{above_last}

-- ---- one more element
pub ascending_more : (us : List ℕ) (t : ℕ) → T (ascending us) → T (above_last us t) → T (ascending (us ++ t ∷ []))
ascending_more [] t a h = tt
ascending_more (u ∷ []) t a h = yes_and (ltb u t) true h tt
ascending_more (u ∷ v ∷ us) t a h =
    let (k, l) = and_yes (ltb u v) (ascending (v ∷ us)) a in
    yes_and (ltb u v) (ascending (v ∷ us ++ t ∷ [])) k (ascending_more (v ∷ us) t l h)

pub differ_more : (cs : List ℕ) (c : ℕ) → T (no_repeats cs) → T (not (any_of (eqb c) cs)) → T (no_repeats (cs ++ c ∷ []))
differ_more [] c t h = tt
differ_more (x ∷ cs) c t h =
    let (k, l) = and_yes (not (any_of (eqb x) cs)) (no_repeats cs) t in
    let (m, n) = or_no (eqb c x) (any_of (eqb c) cs) h in
    let other : T (not (eqb x c)) = no_eqb {a = x} {b = c} (λ e. eqb_no {a = c} {b = x} m (sym e)) in
    yes_and (not (any_of (eqb x) (cs ++ c ∷ []))) (no_repeats (cs ++ c ∷ [])) (none_snoc (eqb x) cs c k other) (differ_more cs c l n)

-- ---- one among others
pub above_at : (xs : List ℕ) (x : ℕ) (ys : List ℕ) → T (ascending (xs ++ x ∷ ys)) → T (above_last xs x)
above_at [] x ys t = tt
above_at (u ∷ []) x ys t = (and_yes (ltb u x) (ascending (x ∷ ys)) t).0
above_at (u ∷ v ∷ us) x ys t = above_at (v ∷ us) x ys (and_yes (ltb u v) (ascending (v ∷ us ++ x ∷ ys)) t).1

pub new_at : (xs : List ℕ) (x : ℕ) (ys : List ℕ) → T (no_repeats (xs ++ x ∷ ys)) → T (not (any_of (eqb x) xs))
new_at [] x ys t = tt
new_at (u ∷ us) x ys t =
    let (h, k) = and_yes (not (any_of (eqb u) (us ++ x ∷ ys))) (no_repeats (us ++ x ∷ ys)) t in
    not_T (any_of (eqb x) (u ∷ us)) (λ o. split h (new_at us x ys k) (or_yes (eqb x u) (any_of (eqb x) us) o))
  where
    split : T (not (any_of (eqb u) (us ++ x ∷ ys))) → T (not (any_of (eqb x) us)) → T (eqb x u) ⊎ T (any_of (eqb x) us) → ⊥
    split h k (inl e) =
        T_not (any_of (eqb u) (us ++ x ∷ ys)) h (has_any (eqb u) {x = x} (Memᴰ.append_right us (Memᴰ.head refl))
        (rw (eqb→eq x u e) (eqb_refl u)))
    split h k (inr m) = T_not (any_of (eqb x) us) k m

-- ---- one of some numbers
pub either : (l a b : ℕ) → T (any_of (eqb l) (a ∷ b ∷ [])) → (l ≡ a) ⊎ (l ≡ b)
either l a b t = go (or_yes (eqb l a) (any_of (eqb l) (b ∷ [])) t)
  where
    go : T (eqb l a) ⊎ T (any_of (eqb l) (b ∷ [])) → (l ≡ a) ⊎ (l ≡ b)
    go (inl h) = inl (eqb→eq l a h)
    go (inr h) = inr (one (or_yes (eqb l b) (any_of (eqb l) []) h))
      where
        one : T (eqb l b) ⊎ ⊥ → l ≡ b
        one (inl k) = eqb→eq l b k
        one (inr k) = absurd k

-- where all of them are within a range
pub among : (l lo hi : ℕ) (xs : List ℕ) → T (any_of (eqb l) xs) → T (all_of (λ x. leb lo x && leb x hi) xs) → (lo ≤ l) × (l ≤ hi)
among l lo hi [] t a = absurd t
among l lo hi (x ∷ xs) t a =
    let (k, m) = and_yes (leb lo x && leb x hi) (all_of (λ y. leb lo y && leb y hi) xs) a in
    go (and_yes (leb lo x) (leb x hi) k) (λ u. among l lo hi xs u m) (or_yes (eqb l x) (any_of (eqb l) xs) t)
  where
    go : T (leb lo x) × T (leb x hi) → (T (any_of (eqb l) xs) → (lo ≤ l) × (l ≤ hi)) → T (eqb l x) ⊎ T (any_of (eqb l) xs)
        → (lo ≤ l) × (l ≤ hi)
    go (u, v) below (inl h) = let e : l ≡ x = eqb→eq l x h in (rw e (leb→le lo x u), rw e (leb→le x hi v))
    go (u, v) below (inr h) = below h

-- the last command stands in a condition, or where an expression may end
pub in_condition_lem : (l : ℕ) → T (any_of (eqb l) in_condition) → (0x40 ≤ l) × (l ≤ 0x42)
in_condition_lem l t = among l 0x40 0x42 in_condition t tt

pub at_ending : (l : ℕ) → T (any_of (eqb l) ending) → (0x31 ≤ l) × (l ≤ 0x42)
at_ending l t = among l 0x31 0x42 ending t tt

-- some list with an element
pub not_empty : {A : Type 0} (xs : List A) → 1 ≤ length xs → T (not (is_empty xs))
not_empty [] h = absurd (omega arith)
not_empty (x ∷ xs) h = tt
