-- Two rows of a well-formed job as one: their bounds and the conditions of each fit. Assumes nothing.
use mathlib.Core.Path.{refl}
use mathlib.Core.List.{[], ◌∷◌, map}
use Prim.Native.Nat.{ℕ, ◌<◌, ◌≤◌}
use native.Mathlib.Omega.{arith}
use lib.ListN.{length, length-map}
use lib.Dec.{T, ltb, ltb→lt, lt→ltb}
use mir.Facts.{and_yes, yes_and}
use Rattle.base.specs.Lists.{◌∈◌, all_of}
use Rattle.model.proofs.Formed.{near}
use Rattle.model.specs.Tables.{Against, column, number, Clause, Condition, Job}
use Rattle.model.specs.WellFormed.{well_formed}
use Rattle.model.specs.Verdict.{columns}
use Rattle.solver.specs.Solver.{bounds_fit, against_fits, comparison_fits}
use Rattle.solver.proofs.Formed.{outputs_declared, few_clauses, JobTaken, job_taken}
use Rattle.conditions.specs.Uses.{condition_fits}
use Rattle.twins.specs.Twins.{renamed_side, renamed_comparison, renamed}
use Rattle.verdict.specs.Found.{twin, both_bounds, keeps_one, keeps_other, wants_one, wants_other}
use Rattle.twins.proofs.Twins.{twins_length, twins_most, twin_declared, twins_all}
use Rattle.twins.proofs.Renamed.{kept}

-- ---- with columns named anew
module _ (n m : ℕ) (f : ℕ → ℕ) (named : (c : ℕ) → c < n → f c < m) where
  named_fits : (c : ℕ) → T (ltb c n) → T (ltb (f c) m)
  named_fits c h = lt→ltb (f c) m (named c (ltb→lt c n h))

  renamed_side_lem : (a : Against) → T (against_fits n a) → T (against_fits m (renamed_side f a))
  renamed_side_lem (column c) h = named_fits c h
  renamed_side_lem (number v) h = h

  renamed_clause_lem : (c : Clause) → T (all_of (comparison_fits n) c) → T (all_of (comparison_fits m) (map (renamed_comparison f) c))
  renamed_clause_lem [] h = tt
  renamed_clause_lem (k ∷ c) h =
      let (i, g) = and_yes (comparison_fits n k) (all_of (comparison_fits n) c) h in
      let (l, a) = and_yes (ltb k.left n) (against_fits n k.right) i in
      yes_and (comparison_fits m (renamed_comparison f k)) (all_of (comparison_fits m) (map (renamed_comparison f) c))
      (yes_and (ltb (f k.left) m) (against_fits m (renamed_side f k.right)) (named_fits k.left l) (renamed_side_lem k.right a))
      (renamed_clause_lem c g)

  pub renamed_fits : (k : Condition) → T (condition_fits n k) → T (condition_fits m (renamed f k))
  unfolding renamed
  renamed_fits [] h = tt
  renamed_fits (c ∷ k) h =
      let (i, g) = and_yes (all_of (comparison_fits n) c) (condition_fits n k) h in
      yes_and (all_of (comparison_fits m) (map (renamed_comparison f) c)) (condition_fits m (renamed f k)) (renamed_clause_lem c i) (renamed_fits k g)

module _ (j : Job) (w : T (well_formed j)) where
  abbrev n : ℕ
  n = length (columns j)

  abbrev m : ℕ
  m = length (both_bounds j)

  pub taken : JobTaken j
  taken = job_taken j w

  -- ---- the bounds
  pub both_fit : T (all_of bounds_fit (both_bounds j))
  both_fit = twins_all n j.extract.outputs (columns j) refl bounds_fit taken.bounds

  pub both_near : T (all_of near (both_bounds j))
  both_near = twins_all n j.extract.outputs (columns j) refl near taken.range

  pub both_most : m ≤ 32
  both_most = omega (arith, twins_most n j.extract.outputs (columns j) refl, taken.few_columns)

  pub first_most : n ≤ m
  first_most = omega (arith, twins_length n j.extract.outputs (columns j) refl)

  pub column_below : (c : ℕ) → c < n → c < m
  column_below c h = omega (arith, twins_length n j.extract.outputs (columns j) refl)

  pub twin_below : (c : ℕ) → c < n → twin j c < m
  twin_below = twin_declared n j.extract.outputs (columns j) refl

  pub outputs_below : (c : ℕ) → c ∈ j.query.outputs → (c < m) × (twin j c < m)
  outputs_below c i = let h = outputs_declared taken.query c i in (column_below c h, twin_below c h)

  -- ---- the conditions
  one_fits : (k : Condition) → T (condition_fits n k) → T (condition_fits m k)
  one_fits k h = rw (kept k) at (renamed_fits n m (λ c. c) column_below k h)

  pub keeps_one_lem : T (condition_fits m (keeps_one j))
  keeps_one_lem = one_fits (keeps_one j) taken.extract.fit

  pub keeps_other_lem : T (condition_fits m (keeps_other j))
  keeps_other_lem = renamed_fits n m (twin j) twin_below (keeps_one j) taken.extract.fit

  pub wants_one_lem : T (condition_fits m (wants_one j))
  wants_one_lem = one_fits (wants_one j) taken.query.fit

  pub wants_other_lem : T (condition_fits m (wants_other j))
  wants_other_lem = renamed_fits n m (twin j) twin_below (wants_one j) taken.query.fit

  pub few_keeps : length (keeps_one j) ≤ 4
  few_keeps = few_clauses taken.extract

  pub few_wants : length (wants_other j) ≤ 4
  unfolding renamed
  few_wants = omega (arith, length-map (wants_one j) (map (renamed_comparison (twin j))), few_clauses taken.query)
