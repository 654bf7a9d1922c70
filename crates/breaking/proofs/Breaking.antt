-- Rows that break clauses: those that obey one of the ways of each, in any order; and what a choice leaves. Assumes nothing.
use mathlib.Core.Path.{◌≡◌, refl, sym, ◌∙◌}
use mathlib.Core.Logic.{◌↔◌, inl, inr, ⊎_elim}
use mathlib.Core.Bool.{Bool, true, false, not, cond, and-true, ◌&&◌}
use mathlib.Core.List.Memᴰ
use mathlib.Core.List.{List, [], ◌∷◌, map}
use mathlib.Core.Option.{Option, none, some}
use Prim.Native.Nat.{ℕ, zero, suc, ◌+◌, ◌-◌}
use native.Mathlib.Omega.{arith}
use lib.ListN.{length, get_or, replicate, get_or-eq_default}
use lib.Dec.{T, le→leb}
use mir.Facts.{and_yes, yes_and, or_yes}
use Rattle.base.specs.Lists.{◌∈◌, any_of, all_of}
use Rattle.base.specs.Options.{and_then}
use Rattle.base.proofs.Lists.{any_has, has_any, all_has, has_all, all_append}
use Rattle.base.proofs.Places.{element}
use Rattle.base.proofs.Tests.{same_test, or_left, or_right, T-is, not_or, not_and, by_less}
use Rattle.words.specs.Bias.{bias}
use Rattle.model.specs.Tables.{Row, Comparison, Clause, Condition, comparison_holds, clause_holds, condition_holds, within}
use Rattle.model.specs.declared.Bounds.{Bounds}
use Rattle.zone.specs.declared.Constraint.{Constraint}
use Rattle.zone.specs.Zone.{Zone, level, allows, tightened}
use Rattle.solver.specs.Obeying.{ObeysSome}
use Rattle.solver.specs.Comparisons.{list_of, negations_of}
use Rattle.solver.specs.Solver.{bounds_fit, comparison_fits, nodes}
use Rattle.solver.proofs.Theorems.{negations_say}
use Rattle.conditions.specs.Uses.{condition_fits}
use Rattle.conditions.proofs.Stands.{Stands, obeys, obeys_is, obeyed_allows, way_stands}
use Rattle.conditions.proofs.Sought.{Sought, then_sought}
use Rattle.breaking.specs.Breaking.{ways_of, free, choices_of, breakable, chosen}
use Rattle.breaking.specs.Places.{in_order}
use Rattle.zone.specs.Uses.{Joins}
use Rattle.breaking.proofs.Once.{any_ways}
use Rattle.breaking.proofs.Sizes.{spare}

-- ---- A row breaks a clause where it obeys one of its ways

abbrev pub breaks : Row → List (List Constraint) → Bool
breaks r = all_of (any_of (obeys r))

some_obeyed : (r : Row) (cs : List Constraint) → ObeysSome cs (nodes r) ↔ T (any_of (obeys r) cs)
some_obeyed r [] = (λ h. h, λ t. t)
some_obeyed r (c ∷ cs) = (
  λ h. ⊎_elim (λ a. or_left (obeys r c) (any_of (obeys r) cs) ((obeys_is r c).1 a))
      (λ b. or_right (obeys r c) (any_of (obeys r) cs) ((some_obeyed r cs).0 b)) h,
  λ t. ⊎_elim (λ a. inl ((obeys_is r c).0 a)) (λ b. inr ((some_obeyed r cs).1 b)) (or_yes (obeys r c) (any_of (obeys r) cs) t),
)

module _ (bs : List Bounds) (fit : T (all_of bounds_fit bs)) (r : Row) (w : T (within bs r)) where
  comparison_fails : (k : Comparison) → T (comparison_fits (length bs) k)
      → not (comparison_holds r k) ≡ any_of (obeys r) (list_of (negations_of k))
  comparison_fails k f =
      let says = negations_say bs fit r w k f in
      same_test (not (comparison_holds r k)) (any_of (obeys r) (list_of (negations_of k)))
      (λ t. (some_obeyed r (list_of (negations_of k))).0 (says.0 t)) (λ t. says.1 ((some_obeyed r (list_of (negations_of k))).1 t))

  some_fails : (c : Clause) → T (all_of (comparison_fits (length bs)) c)
      → not (all_of (comparison_holds r) c) ≡ any_of (λ k. any_of (obeys r) (list_of (negations_of k))) c
  some_fails [] f = refl
  some_fails (k ∷ c) f =
      let (fk, fc) = and_yes (comparison_fits (length bs) k) (all_of (comparison_fits (length bs)) c) f in
      sym (not_and (comparison_holds r k) (all_of (comparison_holds r) c)) ∙ rw (comparison_fails k fk, some_fails c fc)

  clause_breaks : (c : Clause) → T (all_of (comparison_fits (length bs)) c) → not (clause_holds r c) ≡ any_of (obeys r) (ways_of c)
  unfolding clause_holds
  clause_breaks c f = some_fails c f ∙ sym (any_ways (obeys r) c)

  free_broken : (i : ℕ) → breaks r (replicate i spare) ≡ true
  free_broken zero = refl
  free_broken (suc i) = rw (free_broken i, T-is (obeys r free) (le→leb (bias + level) (bias + level) (omega arith)))

  clauses_break : (k : Condition) → T (condition_fits (length bs) k) → not (condition_holds r k) ≡ breaks r (map ways_of k)
  unfolding condition_holds
  clauses_break [] f = refl
  clauses_break (c ∷ k) f =
      let (fc, fk) = and_yes (all_of (comparison_fits (length bs)) c) (condition_fits (length bs) k) f in
      sym (not_or (clause_holds r c) (condition_holds r k)) ∙ rw (clause_breaks c fc, clauses_break k fk)

  pub choices_break : (k : Condition) → T (condition_fits (length bs) k) → breaks r (choices_of k) ≡ not (condition_holds r k)
  unfolding choices_of
  choices_break k f =
      all_append (any_of (obeys r)) (map ways_of k) (replicate (4 - length (map ways_of k)) spare)
      ∙ rw (free_broken (4 - length (map ways_of k)), ← (clauses_break k f)) (and-true (not (condition_holds r k)))

-- ---- What a choice leaves

module _ (bs : List Bounds) where
  -- the ways of each clause are constraints between the nodes
  abbrev pub AllFit : List (List Constraint) → Type 0
  AllFit k = (ws : List Constraint) → ws ∈ k → (c : Constraint) → c ∈ ws → Joins (suc (length bs)) c

  -- also in another order, where a clause that isn't there has no way
  pub order_fits : (o : List ℕ) (k : List (List Constraint)) → AllFit k → AllFit (in_order o k)
  unfolding in_order
  order_fits o k fits ws m c i =
      let (q, _, e) = Memᴰ.of_map (λ q. get_or k q []) o m in
      by_less q (length k)
      (λ h. fits (get_or k q []) (element k q [] h) c (rw e i))
      (λ h. absurd (Memᴰ.not-nil (rw (sym e ∙ get_or-eq_default k [] h) at i)))

  -- where some row breaks the clauses, each can be broken by a look
  pub looks_open : (p : Row → Bool) (z : Zone) → Stands bs p z → (k : List (List Constraint)) → AllFit k
      → (r : Row) → T (within bs r) → T (p r) → T (breaks r k) → T (all_of (breakable z) k)
  unfolding breakable
  looks_open p z s k fits r w h b = has_all (any_of (allows z)) k (λ ws m.
      let (c, i, o) = any_has (obeys r) ws (all_has (any_of (obeys r)) m b) in
      let f = fits ws m c i in
      has_any (allows z) i (obeyed_allows bs p z s c f.left_in f.right_in r w h o))

  pub chosen_sought : (p : Row → Bool) (z : Zone) → Stands bs p z → (c : Constraint) → Joins (suc (length bs)) c
      → (k : List (List Constraint)) → AllFit k
      → (f : Zone → Option Zone) → ((q : Row → Bool) (y : Zone) → Stands bs q y → Sought bs q (λ r. breaks r k) (f y))
      → Sought bs p (λ r. obeys r c && breaks r k) (and_then (chosen z c k) f)
  unfolding chosen
  chosen_sought p z s c fc k fits f next = go (allows z c) refl (all_of (breakable (tightened z c)) k) refl
    where
      stands : allows z c ≡ true → Stands bs (λ r. p r && obeys r c) (tightened z c)
      stands e = way_stands bs p z s c fc.left_in fc.right_in (rw e tt)

      go : (a : Bool) → allows z c ≡ a → (b : Bool) → all_of (breakable (tightened z c)) k ≡ b
          → Sought bs p (λ r. obeys r c && breaks r k) (and_then (cond (a && b) (some (tightened z c)) none) f)
      go false e b i = λ r w h t.
          rw e at (obeyed_allows bs p z s c fc.left_in fc.right_in r w h (and_yes (obeys r c) (breaks r k) t).0)
      go true e false i = λ r w h t.
          let (o, l) = and_yes (obeys r c) (breaks r k) t in
          rw i at (looks_open (λ r. p r && obeys r c) (tightened z c) (stands e) k fits r w (yes_and (p r) (obeys r c) h o) l)
      go true e true i =
          then_sought bs p (λ r. obeys r c) (λ r. breaks r k) (some (tightened z c)) f (stands e) (next (λ r. p r && obeys r c))
