-- The ways of a condition of n columns are constraints between n + 1 nodes. Assumes nothing.
use mathlib.Core.Path.{◌≡◌, subst}
use mathlib.Core.Logic.{⊎_elim}
use mathlib.Core.List.Memᴰ
use mathlib.Core.List.{List, [], ◌∷◌, map}
use Prim.Native.Nat.{ℕ, zero, suc, ◌+◌, ◌-◌, ◌*◌, ◌<◌, ◌≤◌}
use native.Mathlib.Numerals.{add-one}
use native.Mathlib.Omega.{arith}
use lib.ListN.{length, get_or, replicate}
use lib.Dec.{T, ltb, ltb→lt}
use mir.Facts.{and_yes}
use Rattle.base.specs.Lists.{◌∈◌, all_of}
use Rattle.base.proofs.Lists.{all_has}
use Rattle.base.proofs.Places.{element}
use Rattle.words.specs.declared.Op.{Op}
use Rattle.words.specs.declared.Op.TheVariants.{Less, AtMost, Equal, AtLeast, More}
use Rattle.model.specs.Tables.{Comparison, Condition}
use Rattle.zone.specs.declared.Constraint.{Constraint}
use Rattle.zone.specs.Zone.{level}
use Rattle.solver.specs.Comparisons.{node_of, added_to, list_of, against, negations_of}
use Rattle.solver.specs.Solver.{against_fits, comparison_fits}
use Rattle.solver.proofs.Comparisons.{added_most}
use Rattle.solver.proofs.Solver.{node_in}
use Rattle.conditions.specs.Uses.{condition_fits}
use Rattle.breaking.specs.declared.Choices.{Choices}
use Rattle.breaking.specs.Breaking.{ways_of, free, choices_of}
use Rattle.breaking.specs.Places.{choices_in}
use Rattle.zone.specs.Uses.{Joins}
use Rattle.breaking.specs.Uses.{ChoicesFit}
use Rattle.breaking.proofs.Clauses.{choices_at}
use Rattle.breaking.proofs.Once.{ways_each}
use Rattle.breaking.proofs.Sizes.{spare, four_choices}

-- ---- The ways of a comparison

module _ (n : ℕ) (a b w : ℕ) (ha : a < n) (hb : b < n) (hw : w < 2 * level) where
  forth : {m : ℕ} → m ≤ 2 * level → Joins n (record { left = a; right = b; most = m })
  forth h = record { left_in = ha; right_in = hb; most_fits = h }

  back : {m : ℕ} → m ≤ 2 * level → Joins n (record { left = b; right = a; most = m })
  back h = record { left_in = hb; right_in = ha; most_fits = h }

  one_fits : {c : Constraint} → Joins n c → (d : Constraint) → d ∈ (c ∷ []) → Joins n d
  one_fits f d m = rw (Memᴰ.eq_of_singleton m) f

  against_fit : (o : Op) → (d : Constraint) → d ∈ list_of (against o a b w) → Joins n d
  against_fit Less d m = one_fits (back (omega arith)) d m
  against_fit AtMost d m = one_fits (back (omega arith)) d m
  against_fit Equal d (Memᴰ.head e) = rw e (forth (omega arith))
  against_fit Equal d (Memᴰ.tail m) = one_fits (back (omega arith)) d m
  against_fit AtLeast d m = one_fits (forth (omega arith)) d m
  against_fit More d m = one_fits (forth (omega arith)) d m

module _ (n : ℕ) where
  negations_fit : (k : Comparison) → T (comparison_fits n k) → (d : Constraint) → d ∈ list_of (negations_of k) → Joins (suc n) d
  unfolding negations_of
  negations_fit k f =
      let (l, t) = and_yes (ltb k.left n) (against_fits n k.right) f in
      against_fit (suc n) (suc k.left) (node_of k.right) (added_to k.right)
      (omega (arith, ltb→lt k.left n l)) (node_in n k.right t) (added_most n k.right t) k.op

  -- ---- The ways of a condition

  padding : (i : ℕ) {ws : List Constraint} → ws ∈ replicate i spare → ws ≡ spare
  padding zero m = absurd (Memᴰ.not-nil m)
  padding (suc i) (Memᴰ.head e) = e
  padding (suc i) (Memᴰ.tail m) = padding i m

  pub every_way_fits : (k : Condition) → T (condition_fits n k) → (ws : List Constraint) → ws ∈ choices_of k
      → (c : Constraint) → c ∈ ws → Joins (suc n) c
  unfolding choices_of
  every_way_fits k f ws m c i = ⊎_elim
      (λ h.
      let (d, g, e) = Memᴰ.of_map ways_of k h in
      let fits = all_has (all_of (comparison_fits n)) g f in
      ways_each (Joins (suc n)) d (λ k l. negations_fit k (all_has (comparison_fits n) l fits)) c (rw e i))
      (λ h.
      let any : Joins (suc n) free = record { left_in = omega arith; right_in = omega arith; most_fits = omega arith } in
      rw (Memᴰ.eq_of_singleton (subst (λ (ws : List Constraint). c ∈ ws) (padding (4 - length (map ways_of k)) h) i)) any)
      (Memᴰ.append_cases (map ways_of k) m)

-- ---- In a record

module _ (n : ℕ) (k : Condition) (few : length k ≤ 4) (fit : T (condition_fits n k)) (c : Choices) (laid : choices_in c ≡ choices_of k) where
  pub choices_fit : ChoicesFit (n + 1) c
  choices_fit q h =
      let clause = element (choices_of k) q [] (omega (arith, four_choices k few)) in
      rw (← choices_at c q, laid, add-one n) (every_way_fits n k fit (get_or (choices_of k) q []) clause)
