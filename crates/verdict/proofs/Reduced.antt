-- The kinds and the fixed columns of a well-formed job, by rows within bounds and by two rows as one. Assumes nothing.
use mathlib.Core.Path.{◌≡◌, refl, ap, sym, ◌∙◌}
use mathlib.Core.Bool.{Bool, true, false, not, and-true, and-false, ◌&&◌}
use mathlib.Core.List.{List}
use Prim.Native.Nat.{ℕ, ◌<◌}
use lib.ListN.{length}
use lib.Dec.{T}
use mir.Facts.{and_yes, yes_and}
use Rattle.base.proofs.Places.{maps_differ}
use Rattle.base.specs.Lists.{any_of}
use Rattle.base.proofs.Lists.{all_has, any_cong}
use Rattle.base.proofs.Tests.{T-is, stable}
use Rattle.model.proofs.Formed.{JobFormed, job_formed}
use Rattle.words.specs.Compare.{eq_z}
use Rattle.model.specs.Tables.{Row, Job, value, within, condition_holds, outputs_of, meets}
use Rattle.model.specs.WellFormed.{in_scope, structured, limited, well_formed}
use Rattle.model.specs.Rows.{some_row, two_rows, same_row}
use Rattle.model.specs.Verdict.{columns, meets_extract, meets_query, stored, answer, alike_in_extract, tables_differ, kind1, witness2, kind2, witness3, kind3, witness4, kind4, unfixing, fixed}
use Rattle.model.proofs.Rows.{has_some, some_cong, two_cong}
use Rattle.solver.proofs.Formed.{scope_declared}
use Rattle.verdict.specs.Found.{twin, both_bounds, keeps_one, keeps_other, wants_one, wants_other}
use Rattle.databases.proofs.Rows.{one_row, other_row}
use Rattle.twins.proofs.Twins.{first_value, second_value, twins_same, first_within, second_within, twins_sought}
use Rattle.twins.proofs.Renamed.{first_holds, second_holds}

-- ---- less the tests that others imply
implied : (s p : Bool) → (T p → T s) → p ≡ (s && p)
implied s true h = rw (T-is s (h tt))
implied s false h = sym (and-false s)

without_first : (a b q d : Bool) → (T q → T a) → (a && b && q && d) ≡ (q && b && d)
without_first a b true d h = rw (T-is a (h tt), and-true b)
without_first a b false d h = rw (and-false (a && b))

without_both : (a b q p d : Bool) → (T q → T a) → (T p → T b) → (a && b && q && p && d) ≡ (q && p && d)
without_both a b true true d h k = rw (T-is a (h tt), T-is b (k tt))
without_both a b true false d h k = rw (and-false (a && b && true))
without_both a b false p d h k = rw (and-false (a && b))

module _ (j : Job) where
  abbrev n : ℕ
  n = length (columns j)

  abbrev kept : List ℕ
  kept = j.extract.outputs

  -- the two rows have different values in column c
  abbrev pub differ : Row → ℕ → Bool
  differ t c = not (eq_z (value t c) (value t (twin j c)))

  -- what kinds 3 and 4 ask of two rows as one where kind 2 is ruled out, and what it takes that column c isn't fixed
  abbrev pub asked3 : Row → Bool
  asked3 t = condition_holds t (wants_one j) && condition_holds t (keeps_other j) && not (condition_holds t (wants_other j))

  abbrev pub asked4 : Row → Bool
  asked4 t = condition_holds t (wants_one j) && condition_holds t (wants_other j) && any_of (differ t) j.query.outputs

  abbrev pub unfixed : ℕ → Row → Bool
  unfixed c t = condition_holds t (keeps_one j) && condition_holds t (keeps_other j) && differ t c

  -- ---- kinds 1 and 2

  pub kind_1_sought : kind1 j ≡ (tables_differ j && some_row (columns j) (λ r. condition_holds r (wants_one j)))
  unfolding kind1 meets
  kind_1_sought = refl

  pub kind_2_sought : kind2 j ≡ some_row (columns j) (λ r. condition_holds r (wants_one j) && not (condition_holds r (keeps_one j)))
  unfolding kind2 witness2 meets
  kind_2_sought = refl

  -- without kind 2 every row that the query wants is kept
  pub wanted_kept : kind2 j ≡ false → (r : Row) → T (within (columns j) r) → T (meets_query j r) → T (meets_extract j r)
  unfolding kind2 witness2
  wanted_kept e r w q = stable (meets_extract j r) (λ m.
      let h = has_some (columns j) (witness2 j) r w (yes_and (meets_query j r) (not (meets_extract j r)) q m) in
      rw e at h)

  module _ (formed : T (well_formed j)) where
    job : JobFormed j
    unfolding well_formed
    job = job_formed j (and_yes (structured j) (limited j) formed).0

    -- ---- what is asked of the two rows of one
    module _ (t : Row) where
      extract_first : meets_extract j (one_row j t) ≡ condition_holds t (keeps_one j)
      unfolding meets
      extract_first = first_holds j.tables kept j.extract t (keeps_one j) job.extract.condition

      extract_second : meets_extract j (other_row j t) ≡ condition_holds t (keeps_other j)
      unfolding meets
      extract_second = second_holds j.tables kept j.extract t (keeps_one j) job.extract.condition

      query_first : meets_query j (one_row j t) ≡ condition_holds t (wants_one j)
      unfolding meets
      query_first = first_holds j.tables kept j.query t (wants_one j) job.query.condition

      query_second : meets_query j (other_row j t) ≡ condition_holds t (wants_other j)
      unfolding meets
      query_second = second_holds j.tables kept j.query t (wants_one j) job.query.condition

      alike_both : alike_in_extract j (one_row j t) (other_row j t) ≡ (condition_holds t (keeps_one j) && condition_holds t (keeps_other j))
      unfolding alike_in_extract outputs_of
      alike_both =
          rw (extract_first, extract_second, T-is (same_row (stored j (one_row j t)) (stored j (other_row j t))) (twins_same n kept t))
          (and-true (condition_holds t (keeps_one j) && condition_holds t (keeps_other j)))

      values_differ : (c : ℕ) → c < n → not (eq_z (value (one_row j t) c) (value (other_row j t) c)) ≡ differ t c
      values_differ c l = rw (first_value n kept t c l, second_value n kept t c l)

      answers_differ : not (same_row (answer j (one_row j t)) (answer j (other_row j t))) ≡ any_of (differ t) j.query.outputs
      unfolding outputs_of
      answers_differ =
          let cs = j.query.outputs in
          maps_differ eq_z (value (one_row j t)) (value (other_row j t)) cs
          ∙ any_cong (λ c. not (eq_z (value (one_row j t) c) (value (other_row j t) c))) (differ t) cs (λ c m.
          values_differ c (scope_declared j.tables j.query c (all_has (in_scope j.tables j.query) m job.query.outputs)))

      -- so t shows a kind exactly where its two rows do
      pub unfixing_both : (c : ℕ) → c < n → unfixing j c (one_row j t) (other_row j t) ≡ unfixed c t
      unfolding unfixing
      unfixing_both c l = rw (alike_both, values_differ c l)

      module _ (none2 : kind2 j ≡ false) (w : T (within (both_bounds j) t)) where
        first_kept : T (condition_holds t (wants_one j)) → T (condition_holds t (keeps_one j))
        first_kept q = rw (← extract_first) (wanted_kept none2 (one_row j t) (first_within n kept (columns j) refl t w) (rw query_first q))

        second_kept : T (condition_holds t (wants_other j)) → T (condition_holds t (keeps_other j))
        second_kept q = rw (← extract_second) (wanted_kept none2 (other_row j t) (second_within n kept (columns j) refl t w) (rw query_second q))

        pub witness3_both : witness3 j (one_row j t) (other_row j t) ≡ asked3 t
        unfolding witness3
        witness3_both =
            rw (alike_both, query_first, query_second)
            (without_first (condition_holds t (keeps_one j)) (condition_holds t (keeps_other j)) (condition_holds t (wants_one j)) (not (condition_holds t (wants_other j))) first_kept)

        pub witness4_both : witness4 j (one_row j t) (other_row j t) ≡ asked4 t
        unfolding witness4
        witness4_both =
            rw (alike_both, query_first, query_second, answers_differ)
            (without_both (condition_holds t (keeps_one j)) (condition_holds t (keeps_other j)) (condition_holds t (wants_one j)) (condition_holds t (wants_other j)) (any_of (differ t) j.query.outputs)
            first_kept second_kept)

    -- ---- kinds 3 and 4 where kind 2 is ruled out, and the fixed columns

    -- two rows that the extract can't tell apart are sought as one
    alike_sought : (p : Row → Row → Bool) (q : Row → Bool) → ((r s : Row) → T (p r s) → T (alike_in_extract j r s))
        → ((t : Row) → T (within (both_bounds j) t) → p (one_row j t) (other_row j t) ≡ q t) → two_rows (columns j) p ≡ some_row (both_bounds j) q
    unfolding alike_in_extract outputs_of
    alike_sought p q a h =
        let same : Row → Row → Bool = λ r s. same_row (stored j r) (stored j s) in
        two_cong (columns j) p (λ r s. same r s && p r s) (λ r s v w. implied (same r s) (p r s) (λ k.
        (and_yes (meets_extract j r && meets_extract j s) (same r s) (a r s k)).1))
        ∙ twins_sought n kept (columns j) refl p
        ∙ some_cong (both_bounds j) (λ t. p (one_row j t) (other_row j t)) q h

    pub kind_3_sought : kind2 j ≡ false → kind3 j ≡ some_row (both_bounds j) asked3
    unfolding kind3 witness3
    kind_3_sought e = alike_sought (witness3 j) asked3
        (λ r s k.
        let (a, x) = and_yes (alike_in_extract j r s && meets_query j r) (not (meets_query j s)) k in
        (and_yes (alike_in_extract j r s) (meets_query j r) a).0)
        (λ t w. witness3_both t e w)

    pub kind_4_sought : kind2 j ≡ false → kind4 j ≡ some_row (both_bounds j) asked4
    unfolding kind4 witness4
    kind_4_sought e = alike_sought (witness4 j) asked4
        (λ r s k.
        let (a, x) = and_yes (alike_in_extract j r s && meets_query j r && meets_query j s) (not (same_row (answer j r) (answer j s))) k in
        let (b, y) = and_yes (alike_in_extract j r s && meets_query j r) (meets_query j s) a in
        (and_yes (alike_in_extract j r s) (meets_query j r) b).0)
        (λ t w. witness4_both t e w)

    pub fixed_sought : (c : ℕ) → c < n → fixed j c ≡ not (some_row (both_bounds j) (unfixed c))
    unfolding fixed unfixing
    fixed_sought c l = ap not (alike_sought (unfixing j c) (unfixed c)
        (λ r s k. (and_yes (alike_in_extract j r s) (not (eq_z (value r c) (value s c))) k).0)
        (λ t w. unfixing_both t c l))
