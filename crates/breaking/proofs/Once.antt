-- Ways that stand once each: they are those that were added, and one passes a test where one that was added does. Assumes nothing.
use mathlib.Core.Path.{◌≡◌, refl, sym, ◌∙◌}
use mathlib.Core.Logic.{◌⊎◌, inl, inr, ⊎_elim}
use mathlib.Core.Bool.{Bool, true, false, cond, or-false, or_assoc, ◌&&◌, ◌||◌}
use mathlib.Core.List.Memᴰ
use mathlib.Core.List.{List, [], ◌∷◌, ◌++◌}
use lib.Dec.{T, eqb, eqb→eq, eqb_refl}
use mir.Facts.{and_yes, yes_and, or_yes}
use Rattle.base.specs.Lists.{◌∈◌, any_of}
use Rattle.base.proofs.Lists.{any_has, has_any, any_append}
use Rattle.base.proofs.Tests.{is_T, same_test, or_left}
use Rattle.model.specs.Tables.{Comparison, Clause}
use Rattle.zone.specs.declared.Constraint.{Constraint}
use Rattle.std.specs.Prelude.{Option, Some, None}
use Rattle.std.specs.List.{list_any}
use Rattle.solver.specs.declared.Constraints.{Constraints}
use Rattle.solver.specs.Comparisons.{if_second, list_of, negations_of}
use Rattle.breaking.specs.Breaking.{same_constraint, with_way, with_second, with_ways, with_clause, ways_of}

same_is : (c e : Constraint) → T (same_constraint c e) → c ≡ e
same_is c e t =
    let (left, rest) = and_yes (eqb c.left e.left) (eqb c.right e.right && eqb c.most e.most) t in
    let (right, most) = and_yes (eqb c.right e.right) (eqb c.most e.most) rest in
    let l : c.left ≡ e.left = eqb→eq c.left e.left left in
    let r : c.right ≡ e.right = eqb→eq c.right e.right right in
    let m : c.most ≡ e.most = eqb→eq c.most e.most most in
    let fields : record { left = c.left; right = c.right; most = c.most } ≡ e = rw (l, r, m) in
    fields

same_self : (c : Constraint) → T (same_constraint c c)
same_self c =
    yes_and (eqb c.left c.left) (eqb c.right c.right && eqb c.most c.most) (eqb_refl c.left)
    (yes_and (eqb c.right c.right) (eqb c.most c.most) (eqb_refl c.right) (eqb_refl c.most))

same_sym : (c e : Constraint) → same_constraint c e ≡ same_constraint e c
same_sym c e =
    same_test (same_constraint c e) (same_constraint e c) (λ t. rw (same_is c e t) (same_self e)) (λ t. rw (same_is e c t) (same_self c))

-- the library asks whether an element is the way, the definition whether the way is an element
pub among : (c : Constraint) (ws : List Constraint) → list_any (λ e. same_constraint e c) ws ≡ any_of (same_constraint c) ws
among c [] = refl
among c (e ∷ ws) = rw (same_sym e c, among c ws)

-- ---- Which ways there are

pub way_has : (ws : List Constraint) (c : Constraint) {d : Constraint} → d ∈ with_way ws c → (d ∈ ws) ⊎ (d ≡ c)
way_has ws c {d} m = go (any_of (same_constraint c) ws) m
  where
    go : (b : Bool) → d ∈ cond b ws (ws ++ c ∷ []) → (d ∈ ws) ⊎ (d ≡ c)
    go true m = inl m
    go false m = ⊎_elim (λ h. inl h) (λ h. inr (Memᴰ.eq_of_singleton h)) (Memᴰ.append_cases ws m)

-- a property of the ways of each comparison
module _ (P : Constraint → Type 0) where
  way_each : (ws : List Constraint) (c : Constraint) → ((d : Constraint) → d ∈ ws → P d) → P c → (d : Constraint) → d ∈ with_way ws c → P d
  way_each ws c h k d m = ⊎_elim (h d) (λ e. rw e k) (way_has ws c m)

  second_each : (ws : List Constraint) (o : Option Constraint) → ((d : Constraint) → d ∈ ws → P d) → ((d : Constraint) → d ∈ if_second o → P d)
      → (d : Constraint) → d ∈ with_second ws o → P d
  second_each ws None h f = h
  second_each ws (Some c) h f = way_each ws c h (f c (Memᴰ.head refl))

  clause_each : (ws : List Constraint) (c : Clause) → ((d : Constraint) → d ∈ ws → P d)
      → ((k : Comparison) → k ∈ c → (d : Constraint) → d ∈ list_of (negations_of k) → P d) → (d : Constraint) → d ∈ with_clause ws c → P d
  clause_each ws [] h f = h
  clause_each ws (k ∷ c) h f =
      let p = negations_of k in
      let each = f k (Memᴰ.head refl) in
      clause_each (with_ways ws p) c
      (second_each (with_way ws p.first) p.second (way_each ws p.first h (each p.first (Memᴰ.head refl))) (λ d m. each d (Memᴰ.tail m)))
      (λ l m. f l (Memᴰ.tail m))

  pub ways_each : (c : Clause) → ((k : Comparison) → k ∈ c → (d : Constraint) → d ∈ list_of (negations_of k) → P d)
      → (d : Constraint) → d ∈ ways_of c → P d
  unfolding ways_of
  ways_each c f = clause_each [] c (λ d m. absurd (Memᴰ.not-nil m)) f

-- ---- What some way passes

module _ (p : Constraint → Bool) where
  -- a way that is there already adds nothing
  there_already : (ws : List Constraint) (c : Constraint) → any_of (same_constraint c) ws ≡ true → any_of p ws ≡ (any_of p ws || p c)
  there_already ws c e =
      let (d, m, t) = any_has (same_constraint c) ws (is_T e) in
      same_test (any_of p ws) (any_of p ws || p c) (or_left (any_of p ws) (p c))
      (λ h. ⊎_elim (λ a. a) (λ a. has_any p m (rw (← same_is c d t) a)) (or_yes (any_of p ws) (p c) h))

  pub any_way : (ws : List Constraint) (c : Constraint) → any_of p (with_way ws c) ≡ (any_of p ws || p c)
  any_way ws c = go (any_of (same_constraint c) ws) refl
    where
      go : (b : Bool) → any_of (same_constraint c) ws ≡ b → any_of p (cond b ws (ws ++ c ∷ [])) ≡ (any_of p ws || p c)
      go true e = there_already ws c e
      go false e = any_append p ws (c ∷ []) ∙ rw (or-false (p c))

  second_any : (ws : List Constraint) (o : Option Constraint) → any_of p (with_second ws o) ≡ (any_of p ws || any_of p (if_second o))
  second_any ws None = sym (or-false (any_of p ws))
  second_any ws (Some c) = any_way ws c ∙ rw (or-false (p c))

  ways_any : (ws : List Constraint) (n : Constraints) → any_of p (with_ways ws n) ≡ (any_of p ws || any_of p (list_of n))
  ways_any ws n =
      second_any (with_way ws n.first) n.second
      ∙ rw (any_way ws n.first) (or_assoc (any_of p ws) (p n.first) (any_of p (if_second n.second)))

  clause_any : (ws : List Constraint) (c : Clause)
      → any_of p (with_clause ws c) ≡ (any_of p ws || any_of (λ k. any_of p (list_of (negations_of k))) c)
  clause_any ws [] = sym (or-false (any_of p ws))
  clause_any ws (k ∷ c) =
      let n = negations_of k in
      let rest = any_of (λ k. any_of p (list_of (negations_of k))) c in
      clause_any (with_ways ws n) c ∙ rw (ways_any ws n) (or_assoc (any_of p ws) (any_of p (list_of n)) rest)

  -- some way of a clause passes where some negation of a comparison of it does
  pub any_ways : (c : Clause) → any_of p (ways_of c) ≡ any_of (λ k. any_of p (list_of (negations_of k))) c
  unfolding ways_of
  any_ways c = clause_any [] c
