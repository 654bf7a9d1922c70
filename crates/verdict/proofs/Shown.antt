-- The least row of what is found shows the kind, by itself or as two rows. Assumes nothing.
use mathlib.Core.Path.{◌≡◌, refl}
use mathlib.Core.Bool.{false, not, ◌&&◌}
use mathlib.Core.Option.{some}
use lib.ListN.{length}
use lib.Dec.{T}
use Rattle.model.specs.Tables.{Row, Job, condition_holds, meets, within}
use Rattle.model.specs.WellFormed.{well_formed}
use Rattle.model.specs.Verdict.{columns, meets_query, witness2, kind2, witness3, witness4}
use Rattle.zone.specs.Zone.{Zone, least_of}
use Rattle.solver.specs.Solver.{row_of}
use Rattle.conditions.proofs.Sought.{sought_row}
use Rattle.verdict.specs.Found.{both_bounds, keeps_one, wants_one, found1, found2, found3, found4}
use Rattle.databases.proofs.Rows.{one_row, other_row}
use Rattle.twins.proofs.Twins.{first_within, second_within}
use Rattle.verdict.proofs.Reduced.{asked3, asked4, witness3_both, witness4_both}
use Rattle.verdict.proofs.Decided.{every, kind_1_zone, kind_2_zone, kind_3_zone, kind_4_zone}

module _ (j : Job) (formed : T (well_formed j)) (y : Zone) where
  abbrev pub shown : Row
  shown = row_of (least_of y)

  -- ---- one row
  pub kind_1_row : found1 j ≡ some y → T (within (columns j) shown) × T (meets_query j shown)
  unfolding meets
  kind_1_row e =
      let (w, _, h) = sought_row (columns j) every (λ r. condition_holds r (wants_one j)) y (rw e at (kind_1_zone j formed)) in
      (w, h)

  pub kind_2_row : found2 j ≡ some y → T (within (columns j) shown) × T (witness2 j shown)
  unfolding witness2 meets
  kind_2_row e =
      let (w, _, h) = sought_row (columns j) every (λ r. condition_holds r (wants_one j) && not (condition_holds r (keeps_one j))) y (rw e at (kind_2_zone j formed)) in
      (w, h)

  -- ---- two rows as one
  pub both_within : T (within (both_bounds j) shown) → T (within (columns j) (one_row j shown)) × T (within (columns j) (other_row j shown))
  both_within w =
      let n = length (columns j) in
      (first_within n j.extract.outputs (columns j) refl shown w, second_within n j.extract.outputs (columns j) refl shown w)

  module _ (none2 : kind2 j ≡ false) where
    pub kind_3_row : found3 j ≡ some y → T (within (both_bounds j) shown) × T (witness3 j (one_row j shown) (other_row j shown))
    kind_3_row e =
        let (w, _, h) = sought_row (both_bounds j) every (asked3 j) y (rw e at (kind_3_zone j formed)) in
        (w, rw (witness3_both j formed shown none2 w) h)

    pub kind_4_row : found4 j ≡ some y → T (within (both_bounds j) shown) × T (witness4 j (one_row j shown) (other_row j shown))
    kind_4_row e =
        let (w, _, h) = sought_row (both_bounds j) every (asked4 j) y (rw e at (kind_4_zone j formed)) in
        (w, rw (witness4_both j formed shown none2 w) h)
