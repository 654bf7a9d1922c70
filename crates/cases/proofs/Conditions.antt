-- Conditions made of others, so that what is asked of a row, or of two rows as one, is again a condition. Assumes nothing.
use mathlib.Core.Path.{◌≡◌, refl, sym, ◌∙◌}
use mathlib.Core.Logic.{◌⊎◌, inl, inr}
use mathlib.Core.Bool.{Bool, not, and-true, and-false, or-false, and-or_distrib_left, and-or_distrib_right, ◌&&◌}
use mathlib.Core.List.Memᴰ
use mathlib.Core.List.{List, [], ◌∷◌, ◌++◌, map}
use Prim.Native.Nat.{ℕ, ◌+◌, ◌<◌}
use native.Mathlib.Omega.{arith}
use lib.ListN.{drop}
use lib.Seq.{get_or-drop}
use lib.IntN.{pos}
use lib.Dec.{T, ltb, ltb→lt, lt→ltb}
use mir.Facts.{and_yes, yes_and}
use Rattle.base.specs.Lists.{◌∈◌, any_of, all_of, flat_map}
use Rattle.base.proofs.Lists.{all_has, has_all, flat_map_has, any_append, all_append}
use Rattle.base.proofs.Tests.{not_or, not_and}
use Rattle.words.specs.Compare.{holds}
use Rattle.words.specs.declared.Op.{Op}
use Rattle.words.specs.declared.Op.TheVariants.{Equal}
use Rattle.model.specs.Tables.{Row, Against, column, number, Comparison, Clause, Condition, value, operand, comparison_holds, clause_holds, condition_holds}
use Rattle.model.specs.Rows.{same_row}
use Rattle.solver.specs.Comparisons.{opposites}
use Rattle.solver.specs.Solver.{against_fits, comparison_fits}
use Rattle.solver.proofs.Comparisons.{opposites_hold}

-- ---- The conditions

-- a clause of each
abbrev pub both : Condition → Condition → Condition
both k l = flat_map k (λ a. map (λ b. a ++ b) l)

abbrev with_op : Comparison → Op → Clause
with_op k o = record { op = o; left = k.left; right = k.right } ∷ []

-- some comparison of a clause doesn't hold
abbrev broken : Clause → Condition
broken [] = []
broken (k ∷ c) = map (with_op k) (opposites k.op) ++ broken c

-- no clause holds
abbrev pub negation : Condition → Condition
negation [] = [] ∷ []
negation (c ∷ k) = both (broken c) (negation k)

-- the same of the columns n further on
abbrev further_against : ℕ → Against → Against
further_against n (column c) = column (n + c)
further_against n (number v) = number v

abbrev further : ℕ → Comparison → Comparison
further n k = record { op = k.op; left = n + k.left; right = further_against n k.right }

abbrev pub shifted : ℕ → Condition → Condition
shifted n k = map (map (further n)) k

-- columns have the values of those n further on
abbrev repeated : ℕ → ℕ → Comparison
repeated n c = record { op = Equal; left = c; right = column (n + c) }

abbrev pub agreement : ℕ → List ℕ → Condition
agreement n cs = map (repeated n) cs ∷ []

-- ---- When they hold

module _ (r : Row) where
  both_holds : (k l : Condition) → condition_holds r (both k l) ≡ (condition_holds r k && condition_holds r l)
  unfolding condition_holds clause_holds
  both_holds [] l = refl
  both_holds (a ∷ k) l =
      any_append (clause_holds r) (map (λ b. a ++ b) l) (both k l)
      ∙ rw (beside l, both_holds k l) (sym (and-or_distrib_right (clause_holds r a) (condition_holds r k) (condition_holds r l)))
    where
      beside : (l : Condition) → condition_holds r (map (λ b. a ++ b) l) ≡ (clause_holds r a && condition_holds r l)
      beside [] = sym (and-false (clause_holds r a))
      beside (b ∷ l) =
          rw (all_append (comparison_holds r) a b, beside l)
          (sym (and-or_distrib_left (clause_holds r a) (clause_holds r b) (condition_holds r l)))

  broken_holds : (c : Clause) → condition_holds r (broken c) ≡ not (clause_holds r c)
  unfolding condition_holds clause_holds
  broken_holds [] = refl
  broken_holds (k ∷ c) =
      any_append (clause_holds r) (map (with_op k) (opposites k.op)) (broken c)
      ∙ rw (by (opposites k.op), opposites_hold k.op (value r k.left) (operand r k.right), broken_holds c)
      (not_and (comparison_holds r k) (clause_holds r c))
    where
      by : (os : List Op) → condition_holds r (map (with_op k) os) ≡ any_of (λ o. holds o (value r k.left) (operand r k.right)) os
      by [] = refl
      by (o ∷ os) = rw (and-true (holds o (value r k.left) (operand r k.right)), by os)

  negation_holds : (k : Condition) → condition_holds r (negation k) ≡ not (condition_holds r k)
  unfolding condition_holds clause_holds
  negation_holds [] = refl
  negation_holds (c ∷ k) =
      both_holds (broken c) (negation k) ∙ rw (broken_holds c, negation_holds k) (not_or (clause_holds r c) (condition_holds r k))

  -- of what follows n values
  module _ (n : ℕ) where
    further_value : (c : ℕ) → value r (n + c) ≡ value (drop n r) c
    further_value c = sym (get_or-drop n r c (pos 0))

    further_operand : (a : Against) → operand r (further_against n a) ≡ operand (drop n r) a
    further_operand (column c) = further_value c
    further_operand (number v) = refl

    further_holds : (c : Clause) → clause_holds r (map (further n) c) ≡ clause_holds (drop n r) c
    unfolding clause_holds
    further_holds [] = refl
    further_holds (k ∷ c) = rw (further_value k.left, further_operand k.right, further_holds c)

    pub shifted_holds : (k : Condition) → condition_holds r (shifted n k) ≡ condition_holds (drop n r) k
    unfolding condition_holds
    shifted_holds [] = refl
    shifted_holds (c ∷ k) = rw (further_holds c, shifted_holds k)

    pub agreement_holds : (cs : List ℕ) → condition_holds r (agreement n cs) ≡ same_row (map (value r) cs) (map (value (drop n r)) cs)
    unfolding condition_holds clause_holds
    agreement_holds cs = or-false (clause_holds r (map (repeated n) cs)) ∙ each cs
      where
        each : (cs : List ℕ) → clause_holds r (map (repeated n) cs) ≡ same_row (map (value r) cs) (map (value (drop n r)) cs)
        each [] = refl
        each (c ∷ cs) = rw (further_value c, each cs)

-- ---- The solver takes them

-- every comparison is one that the solver takes over n columns
abbrev pub Fits : ℕ → Condition → Type 0
Fits n k = (c : Clause) → c ∈ k → T (all_of (comparison_fits n) c)

module _ (n : ℕ) where
  both_fits : (k l : Condition) → Fits n k → Fits n l → Fits n (both k l)
  both_fits k l h i c m =
      let (a, ma, mc) = flat_map_has k (λ a. map (λ b. a ++ b) l) m in
      let (b, mb, e) = Memᴰ.of_map (λ b. a ++ b) l mc in
      rw (← e, all_append (comparison_fits n) a b) (yes_and (all_of (comparison_fits n) a) (all_of (comparison_fits n) b) (h a ma) (i b mb))

  broken_fits : (d : Clause) → T (all_of (comparison_fits n) d) → Fits n (broken d)
  broken_fits [] h c m = absurd (Memᴰ.not-nil m)
  broken_fits (k ∷ d) h c m =
      let (hk, hd) = and_yes (comparison_fits n k) (all_of (comparison_fits n) d) h in
      part hk (broken_fits d hd c) (Memᴰ.append_cases (map (with_op k) (opposites k.op)) m)
    where
      part : T (comparison_fits n k) → (c ∈ broken d → T (all_of (comparison_fits n) c))
          → (c ∈ map (with_op k) (opposites k.op)) ⊎ (c ∈ broken d) → T (all_of (comparison_fits n) c)
      part hk below (inl i) = let (o, mo, e) = Memᴰ.of_map (with_op k) (opposites k.op) i in rw (← e, and-true (comparison_fits n k)) hk
      part hk below (inr i) = below i

  negation_fits : (k : Condition) → Fits n k → Fits n (negation k)
  negation_fits [] h c m = rw (Memᴰ.eq_of_singleton m) tt
  negation_fits (d ∷ k) h c m =
      both_fits (broken d) (negation k) (broken_fits d (h d (Memᴰ.head refl))) (negation_fits k (λ a i. h a (Memᴰ.tail i))) c m

  -- over twice as many columns
  against_below : (a : Against) → T (against_fits n a) → T (against_fits (n + n) a)
  against_below (column c) h = omega (arith, ltb→lt, lt→ltb)
  against_below (number v) h = h

  against_further : (a : Against) → T (against_fits n a) → T (against_fits (n + n) (further_against n a))
  against_further (column c) h = omega (arith, ltb→lt, lt→ltb)
  against_further (number v) h = h

  pub below_fits : (k : Condition) → Fits n k → Fits (n + n) k
  below_fits k h c m = has_all (comparison_fits (n + n)) c (λ x i.
      let (l, a) = and_yes (ltb x.left n) (against_fits n x.right) (all_has (comparison_fits n) i (h c m)) in
      yes_and (ltb x.left (n + n)) (against_fits (n + n) x.right) (omega (arith, ltb→lt, lt→ltb)) (against_below x.right a))

  pub shifted_fits : (k : Condition) → Fits n k → Fits (n + n) (shifted n k)
  shifted_fits k h c m =
      let (d, md, e) = Memᴰ.of_map (map (further n)) k m in
      rw (← e) (has_all (comparison_fits (n + n)) (map (further n) d) (λ x i.
      let (y, my, f) = Memᴰ.of_map (further n) d i in
      let (l, a) = and_yes (ltb y.left n) (against_fits n y.right) (all_has (comparison_fits n) my (h d md)) in
      rw (← f) (yes_and (ltb (n + y.left) (n + n)) (against_fits (n + n) (further_against n y.right))
      (omega (arith, ltb→lt, lt→ltb)) (against_further y.right a))))

  pub agreement_fits : (cs : List ℕ) → ((c : ℕ) → c ∈ cs → c < n) → Fits (n + n) (agreement n cs)
  agreement_fits cs h c m = rw (Memᴰ.eq_of_singleton m) (has_all (comparison_fits (n + n)) (map (repeated n) cs) (λ x i.
      let (d, md, e) = Memᴰ.of_map (repeated n) cs i in
      let lt = h d md in
      rw (← e) (yes_and (ltb d (n + n)) (ltb (n + d) (n + n)) (omega (arith, lt→ltb)) (omega (arith, lt→ltb)))))

-- ---- A condition that says what a test of rows of n values asks

pub record Says (n : ℕ) (p : Row → Bool) (k : Condition) : Type 0 where
  pub is : (r : Row) → p r ≡ condition_holds r k
  pub fits : Fits n k

module _ {n : ℕ} {p : Row → Bool} {k : Condition} where
  pub says_both : {q : Row → Bool} {l : Condition} → Says n p k → Says n q l → Says n (λ r. p r && q r) (both k l)
  says_both {q} {l} a b = record { is = λ r. rw (a.is r, b.is r) (sym (both_holds r k l)); fits = both_fits n k l a.fits b.fits }

  pub says_not : Says n p k → Says n (λ r. not (p r)) (negation k)
  says_not a = record { is = λ r. rw (a.is r) (sym (negation_holds r k)); fits = negation_fits n k a.fits }
