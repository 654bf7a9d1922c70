-- Comparisons and their constraints: a row of values meets the one where its row of nodes obeys the other. Assumes nothing.
use mathlib.Core.Path.{◌≡◌, refl, sym, ap, subst, ◌∙◌}
use mathlib.Core.Logic.{◌↔◌, ◌⊎◌, inl, inr, ⊎_elim}
use mathlib.Core.Bool.{Bool, false, not, or-false, not-not, ◌&&◌, ◌||◌}
use mathlib.Core.List.{List, [], ◌∷◌}
use Prim.Native.Nat.{ℕ, suc, ◌+◌, ◌*◌, ◌<◌, ◌≤◌}
use native.Mathlib.Omega.{arith}
use lib.ListN.{length}
use lib.IntN.{ℤ, pos, negsuc}
use lib.Signed.{le_z, lt_z}
use lib.Dec.{T, ltb, leb→le, le→leb, ltb→lt, lt→ltb, eqb→eq, eqb_refl}
use mir.Facts.{and_yes, yes_and, or_yes}
use Rattle.base.specs.Lists.{any_of, all_of, at}
use Rattle.base.proofs.Lists.{pairwise_length}
use Rattle.base.proofs.Tests.{same_test, or_left, or_right, not_and}
use Rattle.words.specs.Bias.{bias, biased}
use Rattle.words.specs.Compare.{holds, eq_z}
use Rattle.words.specs.declared.Op.{Op}
use Rattle.words.specs.declared.Op.TheVariants.{Less, AtMost, Equal, AtLeast, More}
use Rattle.words.proofs.Order.{eq_z_is, eq_z_refl, le_z_refl, le_z_antisym, lt_z_not}
use Rattle.words.proofs.Biases.{FromBias, biased_le, biased_lt, biased_eq}
use Rattle.model.specs.Tables.{Row, Against, column, number, Comparison, value, operand, comparison_holds, within, inside}
use Rattle.model.specs.declared.Bounds.{Bounds}
use Rattle.zone.specs.declared.Constraint.{Constraint}
use Rattle.zone.specs.Zone.{level, Obeys}
use Rattle.solver.specs.Obeying.{ObeysAll, ObeysSome}
use Rattle.solver.specs.Comparisons.{node_of, added_to, list_of, between, opposites, against, constraints_of, negations_of}
use Rattle.solver.specs.Solver.{bounds_fit, against_fits, comparison_fits, nodes}
use Rattle.solver.proofs.Nodes.{fit_from, fit_top, within_from, map_at}

-- ---- two values compared, as numbers
module _ (a b : ℤ) (f : FromBias bias a) (g : FromBias bias b) where
  le_is : T (le_z a b) ↔ (biased bias a ≤ biased bias b)
  le_is = (λ t. leb→le _ _ (rw (biased_le bias a b f g) at t), λ h. rw (biased_le bias a b f g) (le→leb _ _ h))

  lt_is : T (lt_z a b) ↔ (biased bias a < biased bias b)
  lt_is = (λ t. ltb→lt _ _ (rw (biased_lt bias a b f g) at t), λ h. rw (biased_lt bias a b f g) (lt→ltb _ _ h))

  eq_is : T (eq_z a b) ↔ (biased bias a ≡ biased bias b)
  eq_is = (λ t. eqb→eq _ _ (rw (biased_eq bias a b f g) at t), λ h. rw (biased_eq bias a b f g, h) (eqb_refl (biased bias b)))

-- two values as nodes: node l has the value a, node r and what is added to it the value b
pub record Sides (a b : ℤ) (x : List ℕ) (l r w : ℕ) : Type 0 where
  pub left_from : FromBias bias a
  pub right_from : FromBias bias b
  pub left_at : at x l ≡ biased bias a
  pub right_at : at x r + w ≡ biased bias b + level
  pub some : 0 < w
  pub most : w < 2 * level

pub between_says : (a b : ℤ) (x : List ℕ) (l r w : ℕ) → Sides a b x l r w → (o : Op) → T (holds o a b) ↔ ObeysAll (list_of (between o l r w)) x
between_says a b x l r w s o = go o
  where
    le : T (le_z a b) ↔ (biased bias a ≤ biased bias b)
    le = le_is a b s.left_from s.right_from

    ge : T (le_z b a) ↔ (biased bias b ≤ biased bias a)
    ge = le_is b a s.right_from s.left_from

    lt : T (lt_z a b) ↔ (biased bias a < biased bias b)
    lt = lt_is a b s.left_from s.right_from

    gt : T (lt_z b a) ↔ (biased bias b < biased bias a)
    gt = lt_is b a s.right_from s.left_from

    eq : T (eq_z a b) ↔ (biased bias a ≡ biased bias b)
    eq = eq_is a b s.left_from s.right_from

    go : (o : Op) → T (holds o a b) ↔ ObeysAll (list_of (between o l r w)) x
    go Less = (λ t. (omega (arith, lt.0 t), tt), λ (h, _). lt.1 (omega (arith, h)))
    go AtMost = (λ t. (omega (arith, le.0 t), tt), λ (h, _). le.1 (omega (arith, h)))
    go Equal = (λ t. (omega (arith, eq.0 t), (omega (arith, eq.0 t), tt)), λ (h, (k, _)). eq.1 (omega (arith, h, k)))
    go AtLeast = (λ t. (omega (arith, ge.0 t), tt), λ (h, _). ge.1 (omega (arith, h)))
    go More = (λ t. (omega (arith, gt.0 t), tt), λ (h, _). gt.1 (omega (arith, h)))

-- ---- what is added to the right node: neither too little nor too much
pub number_added : (v : ℤ) → FromBias bias v → bias + biased level v ≡ biased bias v + level
number_added (pos n) f = omega arith
number_added (negsuc n) f = omega arith

pub added_some : (n : ℕ) (t : Against) → T (against_fits n t) → 0 < added_to t
added_some n (column c) f = omega arith
added_some n (number v) f = omega (arith, number_added v (fit_from v f))

pub added_most : (n : ℕ) (t : Against) → T (against_fits n t) → added_to t < 2 * level
added_most n (column c) f = omega arith
added_most n (number v) f = omega (arith, number_added v (fit_from v f), fit_top v f)

-- ---- negation

le_z_not : (a b : ℤ) → le_z a b ≡ not (lt_z b a)
le_z_not a b = sym (ap not (lt_z_not b a) ∙ not-not (le_z a b))

eq_z_both : (a b : ℤ) → eq_z a b ≡ (le_z b a && le_z a b)
eq_z_both a b = same_test (eq_z a b) (le_z b a && le_z a b)
    (λ h. rw (eq_z_is a b h) (yes_and (le_z b b) (le_z b b) (le_z_refl b) (le_z_refl b)))
    (λ h. let (ge, le) = and_yes (le_z b a) (le_z a b) h in rw (le_z_antisym a b le ge) (eq_z_refl b))

pub opposites_hold : (o : Op) (a b : ℤ) → any_of (λ q. holds q a b) (opposites o) ≡ not (holds o a b)
opposites_hold Less a b = or-false (le_z b a) ∙ le_z_not b a
opposites_hold AtMost a b = or-false (lt_z b a) ∙ lt_z_not b a
opposites_hold Equal a b = rw (or-false (lt_z b a), lt_z_not a b, lt_z_not b a, eq_z_both a b) (not_and (le_z b a) (le_z a b))
opposites_hold AtLeast a b = or-false (lt_z a b) ∙ lt_z_not a b
opposites_hold More a b = or-false (le_z a b) ∙ le_z_not a b

-- one way in which a test fails, and two
lone : (v t : Bool) → (v || false) ≡ t → {C : Type 0} → (T v ↔ C) → T t ↔ (C ⊎ ⊥)
lone v t e way = (λ h. inl (way.0 (rw (or-false v) at (rw (← e) at h))), λ s. rw (← e, or-false v) (⊎_elim way.1 absurd s))

twofold : (u v t : Bool) → (u || (v || false)) ≡ t → {C D : Type 0} → (T u ↔ C) → (T v ↔ D) → T t ↔ (C ⊎ (D ⊎ ⊥))
twofold u v t e one two = (
  λ h. ⊎_elim (λ c. inl (one.0 c)) (λ d. inr ((lone v (v || false) refl two).0 d)) (or_yes u (v || false) (rw (← e) at h)),
  λ s. rw (← e) (⊎_elim (λ c. or_left u (v || false) (one.1 c)) (λ d. or_right u (v || false) ((lone v (v || false) refl two).1 d)) s),
)

pub against_says : (a b : ℤ) (x : List ℕ) (l r w : ℕ) → Sides a b x l r w → (o : Op) → T (not (holds o a b)) ↔ ObeysSome (list_of (against o l r w)) x
against_says a b x l r w s o = go o
  where
    -- an op of one constraint
    way : (o : Op) (c : Constraint) → list_of (between o l r w) ≡ c ∷ [] → T (holds o a b) ↔ Obeys c x
    way o c e =
        let says = subst (λ (cs : List Constraint). T (holds o a b) ↔ ObeysAll cs x) e (between_says a b x l r w s o) in
        (λ t. (says.0 t).0, λ h. says.1 (h, tt))

    go : (o : Op) → T (not (holds o a b)) ↔ ObeysSome (list_of (against o l r w)) x
    go Less = lone (le_z b a) (not (lt_z a b)) (opposites_hold Less a b) (way AtLeast (between AtLeast l r w).first refl)
    go AtMost = lone (lt_z b a) (not (le_z a b)) (opposites_hold AtMost a b) (way More (between More l r w).first refl)
    go Equal =
        twofold (lt_z a b) (lt_z b a) (not (eq_z a b)) (opposites_hold Equal a b)
        (way Less (between Less l r w).first refl)
        (way More (between More l r w).first refl)
    go AtLeast = lone (lt_z a b) (not (le_z b a)) (opposites_hold AtLeast a b) (way Less (between Less l r w).first refl)
    go More = lone (le_z a b) (not (lt_z b a)) (opposites_hold More a b) (way AtMost (between AtMost l r w).first refl)

-- ---- a comparison of a row within bounds
module _ (bs : List Bounds) (fit : T (all_of bounds_fit bs)) (r : Row) (w : T (within bs r)) where
  size : length r ≡ length bs
  size = pairwise_length inside bs r w

  -- the right side: its value fits, and its node and what is added come to that value
  operand_from : (t : Against) → T (against_fits (length bs) t) → FromBias bias (operand r t)
  operand_from (column c) f = within_from bs r fit w c (ltb→lt c (length bs) f)
  operand_from (number v) f = fit_from v f

  operand_at : (t : Against) → T (against_fits (length bs) t) → at (nodes r) (node_of t) + added_to t ≡ biased bias (operand r t) + level
  operand_at (column c) f = ap (λ (n : ℕ). n + level) (map_at r c (omega (arith, ltb→lt c (length bs) f, size)))
  operand_at (number v) f = number_added v (fit_from v f)

  sides : (k : Comparison) → T (comparison_fits (length bs) k)
      → Sides (value r k.left) (operand r k.right) (nodes r) (suc k.left) (node_of k.right) (added_to k.right)
  sides k f =
      let (l, t) = and_yes (ltb k.left (length bs)) (against_fits (length bs) k.right) f in
      let h = ltb→lt k.left (length bs) l in
      record {
        left_from = within_from bs r fit w k.left h;
        right_from = operand_from k.right t;
        left_at = map_at r k.left (omega (arith, size));
        right_at = operand_at k.right t;
        some = added_some (length bs) k.right t;
        most = added_most (length bs) k.right t;
      }

  -- it holds where the nodes obey its constraints, and fails where they obey one of its negations
  pub comparison_says : (k : Comparison) → T (comparison_fits (length bs) k) → T (comparison_holds r k) ↔ ObeysAll (list_of (constraints_of k)) (nodes r)
  unfolding constraints_of
  comparison_says k f = between_says _ _ (nodes r) (suc k.left) (node_of k.right) (added_to k.right) (sides k f) k.op

  pub negations_say : (k : Comparison) → T (comparison_fits (length bs) k) → T (not (comparison_holds r k)) ↔ ObeysSome (list_of (negations_of k)) (nodes r)
  unfolding negations_of
  negations_say k f = against_says _ _ (nodes r) (suc k.left) (node_of k.right) (added_to k.right) (sides k f) k.op
