-- What the solver's definitions mean. Assumes nothing.
use mathlib.Core.Path.{◌≡◌, refl, ◌∙◌}
use mathlib.Core.Logic.{◌↔◌}
use mathlib.Core.Bool.{not}
use mathlib.Core.List.{List}
use mathlib.Core.Option.{Option, none, some}
use Prim.Native.Nat.{ℕ, suc}
use lib.ListN.{length}
use lib.Dec.{T}
use Rattle.solver.specs.Obeying.{ObeysAll, ObeysSome}
use Rattle.base.specs.Lists.{all_of}
use Rattle.model.specs.Tables.{Row, Comparison, within, comparison_holds, clause_holds}
use Rattle.model.specs.declared.Bounds.{Bounds}
use Rattle.model.specs.Least.{least_row}
use Rattle.zone.specs.Zone.{Zone, Meets, Closed, least_of}
use Rattle.zone.proofs.Closed.{least_meets}
use Rattle.solver.specs.Comparisons.{list_of, constraints_of, negations_of}
use Rattle.solver.specs.Solver.{bounds_fit, comparison_fits, solvable, nodes, row_of, zone_of, solution}
use Rattle.solver.proofs.Comparisons as comparisons
use Rattle.solver.proofs.Nodes.{row_meets, meets_row, nodes_length}
use Rattle.solver.proofs.Solver.{parts, zone_answers, list_says, solution_least}

-- ---- a comparison and its constraints, of a row within bounds
module _ (bs : List Bounds) (fit : T (all_of bounds_fit bs)) (r : Row) (w : T (within bs r)) (k : Comparison) (f : T (comparison_fits (length bs) k)) where
  -- it holds where the row obeys all of them
  pub constraints_say : T (comparison_holds r k) ↔ ObeysAll (list_of (constraints_of k)) (nodes r)
  constraints_say = comparisons.comparison_says bs fit r w k f

  -- and fails where the row obeys a negation
  pub negations_say : T (not (comparison_holds r k)) ↔ ObeysSome (list_of (negations_of k)) (nodes r)
  negations_say = comparisons.negations_say bs fit r w k f

-- ---- a list of comparisons
module _ (bs : List Bounds) (ks : List Comparison) (ok : T (solvable bs ks)) where
  -- the solver's row is the least row that meets the list, and it has none where there is none
  pub least_solution : solution bs ks ≡ least_row bs ks
  least_solution = solution_least bs ks ok

  -- the zone of a list is closed, and its rows are the rows within bounds that meet the list
  pub zone_some : (z : Zone) → zone_of bs ks ≡ some z
      → Closed z × (length z ≡ suc (length bs)) × ((r : Row) → T (within bs r) → T (clause_holds r ks) ↔ Meets z (nodes r))
      × ((x : List ℕ) → Meets z x → T (within bs (row_of x)) × (nodes (row_of x) ≡ x))
  zone_some z e =
      let (cl, size, rows) = rw e at (zone_answers bs ks ok) in
      let fit = (parts bs ks ok).0 in (
        cl,
        size ∙ nodes_length bs fit,
        λ r w. (λ h. (rows (nodes r)).1 (row_meets bs fit r w, (list_says bs ks ok r w).0 h), λ m. (list_says bs ks ok r w).1 ((rows (nodes r)).0 m).1),
        λ x m. meets_row bs fit x ((rows x).0 m).0,
      )

  -- and there is one unless no row within bounds meets the list
  pub zone_none : zone_of bs ks ≡ none ↔ ((r : Row) → T (within bs r) → T (clause_holds r ks) → ⊥)
  zone_none = (λ e r w h. (rw e at (zone_answers bs ks ok)) (nodes r) (row_meets bs (parts bs ks ok).0 r w) ((list_says bs ks ok r w).0 h), go (zone_of bs ks) refl)
    where
      go : (o : Option Zone) → zone_of bs ks ≡ o → ((r : Row) → T (within bs r) → T (clause_holds r ks) → ⊥) → o ≡ none
      go none e n = refl
      go (some z) e n =
          let (cl, size, says, back) = zone_some z e in
          let m = least_meets z cl in
          let (w, q) = back (least_of z) m in
          absurd (n (row_of (least_of z)) w ((says (row_of (least_of z)) w).1 (rw q m)))
