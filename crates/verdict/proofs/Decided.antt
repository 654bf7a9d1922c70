-- The kind and the fixed columns of a well-formed job, by searches over zones. Assumes nothing.
use mathlib.Core.Path.{◌≡◌, refl, ap, sym, ◌∙◌}
use mathlib.Core.Bool.{Bool, true, false, not, and_assoc, and_comm, ◌&&◌}
use Prim.Native.Nat.{ℕ, ◌<◌}
use lib.ListN.{length}
use lib.Dec.{T}
use Rattle.model.proofs.Rows.{some_cong}
use Rattle.base.specs.Lists.{any_of}
use Rattle.base.specs.Options.{is_some}
use Rattle.model.specs.Tables.{Row, Job, clause_holds, condition_holds}
use Rattle.model.specs.WellFormed.{well_formed}
use Rattle.model.specs.Verdict.{columns, tables_differ, first_kind, kind1, kind2, kind3, kind4, kind_of, fixed}
use Rattle.conditions.specs.Meeting.{always}
use Rattle.twins.specs.Pairs.{some_apart}
use Rattle.conditions.proofs.Stands.{Stands, box_stands}
use Rattle.conditions.proofs.Sought.{Sought, sought_as, sought_is, met_sought, pairs_sought}
use Rattle.search.proofs.Found.{outside_sought}
use Rattle.twins.proofs.Pairs.{some_apart_lem, pairs_differ}
use Rattle.verdict.specs.Found.{twin, both_bounds, keeps_one, keeps_other, wants_one, wants_other, box, box2, found1, found2, found3, found4, unfixed_in, found_kind}
use Rattle.verdict.proofs.Reduced.{differ, asked3, asked4, unfixed, kind_1_sought, kind_2_sought, kind_3_sought, kind_4_sought, fixed_sought}
use Rattle.verdict.proofs.Limits.{taken, both_fit, twin_below, column_below, outputs_below, keeps_one_lem, keeps_other_lem, wants_one_lem, wants_other_lem, few_keeps, few_wants}

abbrev pub every : Row → Bool
every r = true

-- only the first kind that applies matters
first_kind_lem : (a b c d a' b' c' d' : Bool) → a ≡ a' → b ≡ b' → (b ≡ false → c ≡ c') → (b ≡ false → d ≡ d') → first_kind a b c d ≡ first_kind a' b' c' d'
first_kind_lem a true c d a' b' c' d' e f g h = rw (← e, ← f)
first_kind_lem a false c d a' b' c' d' e f g h = rw (← e, ← f, g refl, h refl)

module _ (j : Job) (w : T (well_formed j)) where
  -- ---- what the searches find
  pub one : Stands (columns j) every (box j)
  one = box_stands (columns j) (taken j w).bounds

  pub two : Stands (both_bounds j) every (box2 j)
  two = box_stands (both_bounds j) (both_fit j w)

  pub kind_1_zone : Sought (columns j) every (λ r. condition_holds r (wants_one j)) (found1 j)
  unfolding found1
  kind_1_zone = met_sought (columns j) (taken j w).bounds every (box j) one (wants_one j) (taken j w).query.fit

  pub kind_2_zone : Sought (columns j) every (λ r. condition_holds r (wants_one j) && not (condition_holds r (keeps_one j))) (found2 j)
  unfolding found2 condition_holds clause_holds
  kind_2_zone =
      outside_sought (columns j) (taken j w).bounds (length (keeps_one j)) (keeps_one j) (few_keeps j w) (taken j w).extract.fit
      every (box j) one always (wants_one j) tt (taken j w).query.fit

  pub kind_3_zone : Sought (both_bounds j) every (asked3 j) (found3 j)
  unfolding found3
  kind_3_zone = sought_as (both_bounds j) every
      (λ t. condition_holds t (keeps_other j) && (condition_holds t (wants_one j) && not (condition_holds t (wants_other j)))) (asked3 j)
      (λ t _.
      sym (and_assoc (condition_holds t (keeps_other j)) (condition_holds t (wants_one j)) (not (condition_holds t (wants_other j))))
      ∙ ap (λ b. b && not (condition_holds t (wants_other j))) (and_comm (condition_holds t (keeps_other j)) (condition_holds t (wants_one j))))
      (found3 j)
      (outside_sought (both_bounds j) (both_fit j w) (length (wants_other j)) (wants_other j) (few_wants j w) (wants_other_lem j w)
      every (box2 j) two (keeps_other j) (wants_one j) (keeps_other_lem j w) (wants_one_lem j w))

  pub kind_4_zone : Sought (both_bounds j) every (asked4 j) (found4 j)
  unfolding found4
  kind_4_zone =
      let other : Row → Bool = λ t. any_of (differ j t) j.query.outputs in
      sought_as (both_bounds j) every
      (λ t. condition_holds t (wants_one j) && (condition_holds t (wants_other j) && other t)) (asked4 j)
      (λ t _. sym (and_assoc (condition_holds t (wants_one j)) (condition_holds t (wants_other j)) (other t))) (found4 j)
      (pairs_sought (both_bounds j) (both_fit j w) every (box2 j) two (wants_one j) (wants_other j) (wants_one_lem j w) (wants_other_lem j w)
      other (some_apart (twin j) j.query.outputs) (some_apart_lem (both_bounds j) (both_fit j w) (twin j) j.query.outputs (outputs_below j w)))

  -- ---- so the kinds and the fixed columns
  pub kind_1_found : kind1 j ≡ (tables_differ j && is_some (found1 j))
  kind_1_found = kind_1_sought j ∙ ap (λ b. tables_differ j && b) (sym (sought_is (columns j) every (λ r. condition_holds r (wants_one j)) (found1 j) kind_1_zone))

  pub kind_2_found : kind2 j ≡ is_some (found2 j)
  kind_2_found =
      kind_2_sought j
      ∙ sym (sought_is (columns j) every (λ r. condition_holds r (wants_one j) && not (condition_holds r (keeps_one j))) (found2 j) kind_2_zone)

  pub kind_3_found : kind2 j ≡ false → kind3 j ≡ is_some (found3 j)
  kind_3_found e = kind_3_sought j w e ∙ sym (sought_is (both_bounds j) every (asked3 j) (found3 j) kind_3_zone)

  pub kind_4_found : kind2 j ≡ false → kind4 j ≡ is_some (found4 j)
  kind_4_found e = kind_4_sought j w e ∙ sym (sought_is (both_bounds j) every (asked4 j) (found4 j) kind_4_zone)

  pub kind_found : kind_of j ≡ found_kind j
  unfolding kind_of found_kind
  kind_found =
      first_kind_lem (kind1 j) (kind2 j) (kind3 j) (kind4 j) (tables_differ j && is_some (found1 j)) (is_some (found2 j)) (is_some (found3 j)) (is_some (found4 j))
      kind_1_found kind_2_found kind_3_found kind_4_found

  pub fixed_found : (c : ℕ) → c < length (columns j) → fixed j c ≡ not (unfixed_in j c)
  unfolding unfixed_in
  fixed_found c h =
      let keeps : Row → Bool = λ t. condition_holds t (keeps_one j) in
      let keeps' : Row → Bool = λ t. condition_holds t (keeps_other j) in
      fixed_sought j w c h
      ∙ ap not (sym (pairs_differ (both_bounds j) (both_fit j w) every (box2 j) two (keeps_one j) (keeps_other j) (keeps_one_lem j w) (keeps_other_lem j w)
      c (twin j c) (column_below j w c h) (twin_below j w c h)
      ∙ some_cong (both_bounds j) (λ t. keeps t && (keeps' t && differ j t c)) (unfixed j c) (λ t _. sym (and_assoc (keeps t) (keeps' t) (differ j t c)))))
