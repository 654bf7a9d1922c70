-- The least row of a list of comparisons: the rows that meet a list are closed under the minimum in every column, so where there is one there is
-- a least. Assumes nothing.
use mathlib.Core.Path.{◌≡◌, refl, sym, ap, ◌∙◌}
use mathlib.Core.Bool.{Bool, true, false, not, cond, ◌&&◌}
use mathlib.Core.List.Memᴰ
use mathlib.Core.List.{List, [], ◌∷◌}
use mathlib.Core.Logic.{◌⊎◌, inl, inr}
use mathlib.Core.Option.{Option, none, some}
use Prim.Native.Nat.{ℕ, zero, suc}
use native.Mathlib.Omega.{arith}
use lib.ListN.{length}
use lib.IntN.{ℤ}
use lib.Signed.{le_z, lt_z}
use mir.Facts.{and_yes, yes_and}
use lib.Dec.{T, T_not, not_T}
use Rattle.base.specs.Lists.{◌∈◌, all_of, filter}
use Rattle.base.proofs.Lists.{pairwise_refl, pairwise_length, filter_has, has_filter, find_some, find_none}
use Rattle.base.proofs.Tests.{stable}
use Rattle.words.specs.Compare.{holds}
use Rattle.words.specs.declared.Op.{Op}
use Rattle.words.specs.declared.Op.TheVariants.{Less, AtMost, Equal, AtLeast, More}
use Rattle.words.proofs.Order.{eq_z_is, eq_z_refl, le_z_refl, le_z_trans, le_z_lt_z_trans, le_z_antisym, nle_z_le}
use Rattle.model.specs.Tables.{Row, Against, column, number, Comparison, value, operand, comparison_holds, clause_holds, inside, within}
use Rattle.model.specs.declared.Bounds.{Bounds}
use Rattle.model.specs.Rows.{box, some_row}
use Rattle.model.specs.Least.{at_most_row, is_least, least_row}
use Rattle.model.proofs.Rows.{box_has, has_box, some_has, has_some}

-- ---- the lesser of two values
abbrev lesser : ℤ → ℤ → ℤ
lesser a b = cond (le_z a b) a b

lesser_left : (a b : ℤ) → T (le_z (lesser a b) a)
lesser_left a b = go (le_z a b) refl
  where
    go : (t : Bool) → le_z a b ≡ t → T (le_z (cond t a b) a)
    go true e = le_z_refl a
    go false e = nle_z_le a b (rw e tt)

lesser_right : (a b : ℤ) → T (le_z (lesser a b) b)
lesser_right a b = go (le_z a b) refl
  where
    go : (t : Bool) → le_z a b ≡ t → T (le_z (cond t a b) b)
    go true e = rw e tt
    go false e = le_z_refl b

-- what both are at least, the lesser is
lesser_least : (a b c : ℤ) → T (le_z c a) → T (le_z c b) → T (le_z c (lesser a b))
lesser_least a b c h k = go (le_z a b)
  where
    go : (t : Bool) → T (le_z c (cond t a b))
    go true = h
    go false = k

lesser_same : (a : ℤ) → lesser a a ≡ a
lesser_same a = go (le_z a a)
  where
    go : (t : Bool) → cond t a a ≡ a
    go true = refl
    go false = refl

-- ---- a comparison of two pairs holds of the lesser ones
lesser_le : (a b c d : ℤ) → T (le_z a b) → T (le_z c d) → T (le_z (lesser a c) (lesser b d))
lesser_le a b c d h k = lesser_least b d (lesser a c) (le_z_trans (lesser a c) a b (lesser_left a c) h) (le_z_trans (lesser a c) c d (lesser_right a c) k)

lesser_lt : (a b c d : ℤ) → T (lt_z a b) → T (lt_z c d) → T (lt_z (lesser a c) (lesser b d))
lesser_lt a b c d h k = go (le_z b d)
  where
    go : (t : Bool) → T (lt_z (lesser a c) (cond t b d))
    go true = le_z_lt_z_trans (lesser a c) a b (lesser_left a c) h
    go false = le_z_lt_z_trans (lesser a c) c d (lesser_right a c) k

lesser_holds : (o : Op) (a b c d : ℤ) → T (holds o a b) → T (holds o c d) → T (holds o (lesser a c) (lesser b d))
lesser_holds Less a b c d h k = lesser_lt a b c d h k
lesser_holds AtMost a b c d h k = lesser_le a b c d h k
lesser_holds Equal a b c d h k = rw (eq_z_is a b h, eq_z_is c d k) (eq_z_refl (lesser b d))
lesser_holds AtLeast a b c d h k = lesser_le b a d c h k
lesser_holds More a b c d h k = lesser_lt b a d c h k

-- ---- the lesser values of two rows
abbrev meet : Row → Row → Row
meet [] s = []
meet (a ∷ r) [] = []
meet (a ∷ r) (b ∷ s) = lesser a b ∷ meet r s

meet_value : (r s : Row) → length r ≡ length s → (c : ℕ) → value (meet r s) c ≡ lesser (value r c) (value s c)
meet_value [] [] e c = refl
meet_value [] (b ∷ s) e c = absurd (omega arith)
meet_value (a ∷ r) [] e c = absurd (omega arith)
meet_value (a ∷ r) (b ∷ s) e zero = refl
meet_value (a ∷ r) (b ∷ s) e (suc c) = meet_value r s (omega arith) c

meet_within : (bs : List Bounds) (r s : Row) → T (within bs r) → T (within bs s) → T (within bs (meet r s))
meet_within [] [] s v w = tt
meet_within [] (a ∷ r) s v w = absurd v
meet_within (b ∷ bs) [] s v w = absurd v
meet_within (b ∷ bs) (a ∷ r) [] v w = absurd w
meet_within (b ∷ bs) (a ∷ r) (c ∷ s) v w =
    let (i, x) = and_yes (inside b a) (within bs r) v in
    let (k, y) = and_yes (inside b c) (within bs s) w in
    let (al, ah) = and_yes (le_z b.lo a) (le_z a b.hi) i in
    let (cl, ch) = and_yes (le_z b.lo c) (le_z c b.hi) k in
    yes_and (inside b (lesser a c)) (within bs (meet r s))
    (yes_and (le_z b.lo (lesser a c)) (le_z (lesser a c) b.hi) (lesser_least a c b.lo al cl) (le_z_trans (lesser a c) a b.hi (lesser_left a c) ah))
    (meet_within bs r s x y)

-- ---- in every column at most
at_most_trans : (r s t : Row) → T (at_most_row r s) → T (at_most_row s t) → T (at_most_row r t)
at_most_trans [] [] t h k = k
at_most_trans [] (b ∷ s) t h k = absurd h
at_most_trans (a ∷ r) [] t h k = absurd h
at_most_trans (a ∷ r) (b ∷ s) [] h k = absurd k
at_most_trans (a ∷ r) (b ∷ s) (c ∷ t) h k =
    let (i, x) = and_yes (le_z a b) (at_most_row r s) h in
    let (l, y) = and_yes (le_z b c) (at_most_row s t) k in
    yes_and (le_z a c) (at_most_row r t) (le_z_trans a b c i l) (at_most_trans r s t x y)

at_most_antisym : (r s : Row) → T (at_most_row r s) → T (at_most_row s r) → r ≡ s
at_most_antisym [] [] h k = refl
at_most_antisym [] (b ∷ s) h k = absurd h
at_most_antisym (a ∷ r) [] h k = absurd h
at_most_antisym (a ∷ r) (b ∷ s) h k =
    let (i, x) = and_yes (le_z a b) (at_most_row r s) h in
    let (l, y) = and_yes (le_z b a) (at_most_row s r) k in
    rw (le_z_antisym a b i l, at_most_antisym r s x y)

meet_left : (r s : Row) → length r ≡ length s → T (at_most_row (meet r s) r)
meet_left [] s e = tt
meet_left (a ∷ r) [] e = absurd (omega arith)
meet_left (a ∷ r) (b ∷ s) e = yes_and (le_z (lesser a b) a) (at_most_row (meet r s) r) (lesser_left a b) (meet_left r s (omega arith))

meet_right : (r s : Row) → length r ≡ length s → T (at_most_row (meet r s) s)
meet_right [] [] e = tt
meet_right [] (b ∷ s) e = absurd (omega arith)
meet_right (a ∷ r) [] e = absurd (omega arith)
meet_right (a ∷ r) (b ∷ s) e = yes_and (le_z (lesser a b) b) (at_most_row (meet r s) s) (lesser_right a b) (meet_right r s (omega arith))

-- ---- the rows that meet a list are closed under it
module _ (r s : Row) (same : length r ≡ length s) where
  meet_operand : (a : Against) → operand (meet r s) a ≡ lesser (operand r a) (operand s a)
  meet_operand (column c) = meet_value r s same c
  meet_operand (number n) = sym (lesser_same n)

  meet_comparison : (k : Comparison) → T (comparison_holds r k) → T (comparison_holds s k) → T (comparison_holds (meet r s) k)
  meet_comparison k h i =
      rw (meet_value r s same k.left, meet_operand k.right)
      (lesser_holds k.op (value r k.left) (operand r k.right) (value s k.left) (operand s k.right) h i)

  meet_holds : (ks : List Comparison) → T (clause_holds r ks) → T (clause_holds s ks) → T (clause_holds (meet r s) ks)
  unfolding clause_holds
  meet_holds [] h i = tt
  meet_holds (k ∷ ks) h i =
      let (h₁, h₂) = and_yes (comparison_holds r k) (all_of (comparison_holds r) ks) h in
      let (i₁, i₂) = and_yes (comparison_holds s k) (all_of (comparison_holds s) ks) i in
      yes_and (comparison_holds (meet r s) k) (all_of (comparison_holds (meet r s)) ks) (meet_comparison k h₁ i₁) (meet_holds ks h₂ i₂)

-- ---- so there is a least
module _ (bs : List Bounds) (ks : List Comparison) where
  -- within bounds, and meets the list
  abbrev pub Solves : Row → Type 0
  Solves r = T (within bs r) × T (clause_holds r ks)

  meet_solves : (r s : Row) → Solves r → Solves s → Solves (meet r s)
  meet_solves r s (v, h) (w, i) = (meet_within bs r s v w, meet_holds r s (pairwise_length inside bs r v ∙ sym (pairwise_length inside bs s w)) ks h i)

  -- below a solution and all of a list of solutions
  lowest : (r : Row) (ss : List Row) → Solves r → ((s : Row) → s ∈ ss → Solves s)
      → (m : Row) × Solves m × T (at_most_row m r) × ((s : Row) → s ∈ ss → T (at_most_row m s))
  lowest r [] h k = (r, h, pairwise_refl le_z le_z_refl r, λ s m. absurd (Memᴰ.not-nil m))
  lowest r (x ∷ ss) h k =
      let hx = k x (Memᴰ.head refl) in
      let e = pairwise_length inside bs r h.0 ∙ sym (pairwise_length inside bs x hx.0) in
      let (m, hm, low, all) = lowest (meet r x) ss (meet_solves r x h hx) (λ s n. k s (Memᴰ.tail n)) in
      (m, hm, at_most_trans m (meet r x) r low (meet_left r x e), λ s n. split m low all e s (Memᴰ.cases_cons n))
    where
      split : (m : Row) → T (at_most_row m (meet r x)) → ((s : Row) → s ∈ ss → T (at_most_row m s)) → length r ≡ length x → (s : Row)
          → (s ≡ x) ⊎ (s ∈ ss) → T (at_most_row m s)
      split m low all e s (inl q) = rw q (at_most_trans m (meet r x) x low (meet_right r x e))
      split m low all e s (inr n) = all s n

  pub least_is : (r : Row) → least_row bs ks ≡ some r → Solves r × ((s : Row) → Solves s → T (at_most_row r s))
  unfolding least_row is_least
  least_is r e =
      let (m, t) = find_some (is_least bs ks) (box bs) e in
      let More : Row → Bool = λ s. clause_holds s ks && not (at_most_row r s) in
      let (h, n) = and_yes (clause_holds r ks) (not (some_row bs More)) t in
      let low : (s : Row) → Solves s → T (at_most_row r s) = λ s (w, i). stable (at_most_row r s) (λ k.
      T_not (some_row bs More) n (has_some bs More s w (yes_and (clause_holds s ks) (not (at_most_row r s)) i k))) in
      ((box_has bs m, h), low)

  pub least_found_lem : (r : Row) → Solves r → least_row bs ks ≡ none → ⊥
  unfolding least_row is_least
  least_found_lem r h e =
      let meets : Row → Bool = λ s. clause_holds s ks in
      let (m, hm, low, all) = lowest r (filter meets (box bs)) h (λ s n. let (b, i) = filter_has meets (box bs) n in (box_has bs b, i)) in
      let More : Row → Bool = λ s. clause_holds s ks && not (at_most_row m s) in
      find_none (is_least bs ks) (has_box bs m hm.0) (yes_and (clause_holds m ks) (not (some_row bs More)) hm.1
      (not_T (some_row bs More) (λ t.
      let (s, w, x) = some_has bs More t in
      let (i, n) = and_yes (clause_holds s ks) (not (at_most_row m s)) x in
      T_not (at_most_row m s) n (all s (has_filter meets (has_box bs s w) i))))) e

  pub is_least_lem : (r : Row) → Solves r → ((s : Row) → Solves s → T (at_most_row r s)) → least_row bs ks ≡ some r
  is_least_lem r h low = go (least_row bs ks) refl
    where
      go : (o : Option Row) → least_row bs ks ≡ o → o ≡ some r
      go none e = absurd (least_found_lem r h e)
      go (some q) e = let (k, l) = least_is q e in ap some (at_most_antisym q r (l r h) (low q k))
