-- What the search finds: rows that break every clause of a condition, and those that meet two others too. Assumes nothing.
use mathlib.Core.Path.{refl, ◌∙◌}
use mathlib.Core.Bool.{Bool, not, ◌&&◌}
use mathlib.Core.List.Memᴰ
use mathlib.Core.List.{List, [], ◌∷◌}
use Prim.Native.Nat.{ℕ, ◌≤◌}
use lib.ListN.{length}
use lib.Dec.{T}
use Rattle.base.specs.Lists.{any_of, all_of}
use Rattle.base.specs.Options.{and_then}
use Rattle.base.proofs.Lists.{any_and}
use Rattle.model.specs.Tables.{Row, Condition, condition_holds}
use Rattle.model.specs.declared.Bounds.{Bounds}
use Rattle.zone.specs.declared.Constraint.{Constraint}
use Rattle.zone.specs.Zone.{Zone}
use Rattle.solver.specs.Solver.{bounds_fit}
use Rattle.conditions.specs.Uses.{condition_fits}
use Rattle.conditions.proofs.Stands.{Stands, obeys}
use Rattle.conditions.proofs.Sought.{Sought, sought_as, first_sought}
use Rattle.conditions.proofs.Sought.{pairs_sought}
use Rattle.breaking.specs.Breaking.{choices_of, chosen}
use Rattle.breaking.specs.Places.{in_order}
use Rattle.breaking.proofs.Sizes.{four_choices}
use Rattle.breaking.proofs.Fitting.{every_way_fits}
use Rattle.breaking.proofs.Breaking.{breaks, choices_break, AllFit, chosen_sought, order_fits}
use Rattle.search.specs.Order.{weights, order_by}
use Rattle.search.specs.Search.{broken, broken_by, outside}
use Rattle.search.proofs.Order.{order_breaks}

module _ (bs : List Bounds) where
  broken_by_lem : (k : List (List Constraint)) → AllFit bs k → (p : Row → Bool) (z : Zone) → Stands bs p z → Sought bs p (λ r. breaks r k) (broken z k)
  broken_by_lem [] fits p z s = (p, s, λ r w h. (h, tt))
  broken_by_lem (ws ∷ k) fits p z s =
      let rest : AllFit bs k = λ vs m. fits vs (Memᴰ.tail m) in
      sought_as bs p (λ r. any_of (λ c. obeys r c && breaks r k) ws) (λ r. breaks r (ws ∷ k)) (λ r w. any_and (obeys r) (breaks r k) ws) (broken z (ws ∷ k))
      (first_sought bs p (λ c r. obeys r c && breaks r k) (λ c. and_then (chosen z c k) (λ y. broken y k)) ws (λ c m.
      chosen_sought bs p z s c (fits ws (Memᴰ.head refl) c m) k rest (λ y. broken y k) (broken_by_lem k rest)))

module _ (bs : List Bounds) (fit : T (all_of bounds_fit bs)) (count : ℕ) (k : Condition) (few : length k ≤ 4) (fk : T (condition_fits (length bs) k)) where
  -- to break a condition, in whatever order its clauses come
  broken_sought : (p : Row → Bool) (z : Zone) → Stands bs p z → Sought bs p (λ r. not (condition_holds r k)) (broken_by z count (choices_of k))
  unfolding broken_by
  broken_sought p z s =
      let o = order_by (weights z count (choices_of k)) in
      sought_as bs p (λ r. breaks r (in_order o (choices_of k))) (λ r. not (condition_holds r k))
      (λ r w. order_breaks (weights z count (choices_of k)) r (choices_of k) (four_choices k few) ∙ choices_break bs fit r w k fk)
      (broken z (in_order o (choices_of k)))
      (broken_by_lem bs (in_order o (choices_of k)) (order_fits bs o (choices_of k) (every_way_fits (length bs) k fk)) p z s)

  -- to meet two conditions and not this one
  pub outside_sought : (p : Row → Bool) (z : Zone) → Stands bs p z → (a b : Condition) → T (condition_fits (length bs) a) → T (condition_fits (length bs) b)
      → Sought bs p (λ r. condition_holds r a && (condition_holds r b && not (condition_holds r k))) (outside z a b count (choices_of k))
  unfolding outside
  outside_sought p z s a b fa fb =
      pairs_sought bs fit p z s a b fa fb (λ r. not (condition_holds r k)) (λ y. broken_by y count (choices_of k)) broken_sought
