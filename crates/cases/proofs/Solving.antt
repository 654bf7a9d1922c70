-- "Some row" and "two rows" by the solver. Assumes nothing.
use mathlib.Core.Path.{◌≡◌, refl, ◌∙◌}
use mathlib.Core.Bool.{Bool, true, false}
use mathlib.Core.List.{List, ◌++◌}
use mathlib.Core.Option.{Option, none, some}
use Prim.Native.Nat.{◌+◌}
use lib.ListN.{length, take, drop, length-append}
use lib.Seq.{take_at, drop_at}
use lib.Dec.{T}
use mir.Facts.{yes_and}
use Rattle.base.specs.Lists.{any_of, all_of}
use Rattle.base.proofs.Lists.{any_has, has_any, pairwise_length, pairwise_append, pairwise_split, all_append}
use Rattle.base.proofs.Tests.{same_test}
use Rattle.model.specs.Tables.{Row, Clause, Condition, inside, within, clause_holds}
use Rattle.model.specs.declared.Bounds.{Bounds}
use Rattle.model.specs.Rows.{some_row, two_rows}
use Rattle.model.specs.Least.{least_row}
use Rattle.model.proofs.Rows.{some_has, has_some, two_has, has_two}
use Rattle.model.proofs.Theorems.{condition_holds_lem, least_none, least_some}
use Rattle.solver.specs.Solver.{bounds_fit, comparison_fits, solvable, solution}
use Rattle.solver.proofs.Theorems.{least_solution}
use Rattle.cases.proofs.Conditions.{Says}

abbrev found : Option Row → Bool
found none = false
found (some r) = true

-- some clause has a solution
abbrev pub some_solution : List Bounds → Condition → Bool
some_solution bs k = any_of (λ c. found (solution bs c)) k

module _ (bs : List Bounds) (fit : T (all_of bounds_fit bs)) where
  -- a clause has a solution exactly where some row within bounds meets it
  module _ (c : Clause) (fits : T (all_of (comparison_fits (length bs)) c)) where
    is_least_lem : solution bs c ≡ least_row bs c
    unfolding solvable
    is_least_lem = least_solution bs c (yes_and (all_of bounds_fit bs) (all_of (comparison_fits (length bs)) c) fit fits)

    solution_has : T (found (solution bs c)) → (r : Row) × T (within bs r) × T (clause_holds r c)
    solution_has t = go (least_row bs c) refl (rw is_least_lem at t)
      where
        go : (o : Option Row) → least_row bs c ≡ o → T (found o) → (r : Row) × T (within bs r) × T (clause_holds r c)
        go none e t = absurd t
        go (some r) e t = let (w, h, low) = (least_some bs c r).0 e in (r, w, h)

    has_solution : (r : Row) → T (within bs r) → T (clause_holds r c) → T (found (solution bs c))
    has_solution r w h = rw is_least_lem (go (least_row bs c) refl)
      where
        go : (o : Option Row) → least_row bs c ≡ o → T (found o)
        go none e = absurd ((least_none bs c).0 e r w h)
        go (some s) e = tt

  pub some_by_solver : {p : Row → Bool} {k : Condition} → Says (length bs) p k → some_row bs p ≡ some_solution bs k
  some_by_solver {p} {k} says = same_test (some_row bs p) (some_solution bs k)
      (λ t.
      let (r, w, h) = some_has bs p t in
      let (c, m, i) = (condition_holds_lem r k).0 (rw (says.is r) at h) in
      has_any (λ c. found (solution bs c)) m (has_solution c (says.fits c m) r w i))
      (λ t.
      let (c, m, s) = any_has (λ c. found (solution bs c)) k t in
      let (r, w, h) = solution_has c (says.fits c m) s in
      has_some bs p r w (rw (says.is r) ((condition_holds_lem r k).1 (c, m, h))))

-- two rows as one row of twice the columns, which is cut in half for them
abbrev pub halves : List Bounds → (Row → Row → Bool) → Row → Bool
halves bs p t = p (take (length bs) t) (drop (length bs) t)

two_as_one : (bs : List Bounds) (p : Row → Row → Bool) → two_rows bs p ≡ some_row (bs ++ bs) (halves bs p)
two_as_one bs p = same_test (two_rows bs p) (some_row (bs ++ bs) (halves bs p))
    (λ t.
    let (r, s, v, w, h) = two_has bs p t in
    let long = pairwise_length inside bs r v in
    has_some (bs ++ bs) (halves bs p) (r ++ s) (pairwise_append inside bs bs r s v w)
    (rw (take_at r s (length bs) long, drop_at r s (length bs) long) h))
    (λ t.
    let (q, w, h) = some_has (bs ++ bs) (halves bs p) t in
    let (v, x) = pairwise_split inside bs bs q w in
    has_two bs p (take (length bs) q) (drop (length bs) q) v x h)

pub two_by_solver : (bs : List Bounds) → T (all_of bounds_fit bs) → (p : Row → Row → Bool) {k : Condition}
    → Says (length bs + length bs) (halves bs p) k → two_rows bs p ≡ some_solution (bs ++ bs) k
two_by_solver bs fit p says =
    two_as_one bs p
    ∙ some_by_solver (bs ++ bs) (rw (all_append bounds_fit bs bs) (yes_and (all_of bounds_fit bs) (all_of bounds_fit bs) fit fit))
    (rw (← (length-append bs bs)) at says)
