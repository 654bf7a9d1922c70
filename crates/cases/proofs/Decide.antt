-- The kind and the listing by the solver, for a well-formed job. Assumes nothing.
use mathlib.Core.Path.{◌≡◌, refl, sym}
use mathlib.Core.Bool.{Bool, not, cond, and-true, ◌&&◌}
use mathlib.Core.List.Memᴰ
use mathlib.Core.List.{[], ◌∷◌, ◌++◌}
use Prim.Native.Nat.{ℕ, ◌+◌, ◌<◌}
use lib.ListN.{length, take, drop}
use lib.Seq.{get_or-take}
use lib.IntN.{pos}
use lib.Dec.{T, eqb}
use Rattle.base.specs.Lists.{any_of, all_of}
use Rattle.base.proofs.Lists.{all_has}
use Rattle.words.specs.Compare.{eq_z}
use Rattle.model.specs.Tables.{Row, Condition, Expression, Job, table_of, uses, value, outputs_of, meets}
use Rattle.model.specs.WellFormed.{in_scope, well_formed}
use Rattle.model.specs.Rows.{some_row, same_row}
use Rattle.model.specs.Verdict.{first_kind, columns, meets_query, alike_in_extract, tables_differ, kind1, witness2, kind2, witness3, kind3, witness4, kind4, kind_of, unfixing, fixed, listing_of}
use Rattle.model.proofs.Scope.{same_meets, same_outputs}
use Rattle.solver.specs.Solver.{comparison_fits}
use Rattle.solver.proofs.Formed.{scope_declared, Taken, outputs_declared, JobTaken, job_taken}
use Rattle.cases.proofs.Conditions.{Fits, both, negation, shifted, agreement, shifted_holds, agreement_holds, below_fits, shifted_fits, agreement_fits, Says, says_both, says_not}
use Rattle.cases.proofs.Solving.{some_solution, some_by_solver, halves, two_by_solver}

module _ (j : Job) where
  abbrev n : ℕ
  n = length (columns j)

  -- ---- What is asked of a row, or of two rows as one, as a condition

  -- each expression's condition, of the first row and of the second
  abbrev E : Condition
  E = j.extract.condition

  abbrev E' : Condition
  E' = shifted n E

  abbrev Q : Condition
  Q = j.query.condition

  abbrev Q' : Condition
  Q' = shifted n Q

  -- the extract can't tell the two rows apart
  abbrev alike : Condition
  alike = both (both E E') (agreement n j.extract.outputs)

  -- a row that kind 2 speaks of, two that kinds 3 and 4 speak of, two that show that column c isn't fixed
  abbrev asked2 : Condition
  asked2 = both Q (negation E)

  abbrev asked3 : Condition
  asked3 = both (both alike Q) (negation Q')

  abbrev asked4 : Condition
  asked4 = both (both (both alike Q) Q') (negation (agreement n j.query.outputs))

  abbrev unfixed : ℕ → Condition
  unfixed c = both alike (negation (agreement n (c ∷ [])))

  -- ---- The decision

  -- some row meets a condition, and some two rows as one
  abbrev one : Condition → Bool
  one k = some_solution (columns j) k

  abbrev two : Condition → Bool
  two k = some_solution (columns j ++ columns j) k

  unfoldable pub kind_by_solver : ℕ
  kind_by_solver = first_kind (tables_differ j && one Q) (one asked2) (two asked3) (two asked4)

  unfoldable pub listing_by_solver : ℕ → ℕ
  listing_by_solver c =
      cond (not (uses j.extract (table_of j.tables c))) 0
      (cond (any_of (eqb c) j.extract.outputs) 1
      (cond (not (two (unfixed c))) 2 3))

  -- ---- The conditions say what is asked

  -- of two rows as one
  abbrev SaysOfTwo : (Row → Row → Bool) → Condition → Type 0
  SaysOfTwo p k = Says (n + n) (halves (columns j) p) k

  -- in declared columns the first row has the values of the two as one
  first_value : (t : Row) (c : ℕ) → c < n → value t c ≡ value (take n t) c
  first_value t c declared = sym (get_or-take n t c (pos 0) declared)

  -- of an expression
  module _ {e : Expression} (taken : Taken j.tables e) where
    fits : Fits n e.condition
    fits c m = all_has (all_of (comparison_fits n)) m taken.fit

    first_scope : (t : Row) (c : ℕ) → T (in_scope j.tables e c) → value t c ≡ value (take n t) c
    first_scope t c h = first_value t c (scope_declared j.tables e c h)

    says_meets : Says n (meets e) e.condition
    unfolding meets
    says_meets = record { is = λ r. refl; fits = fits }

    says_first : SaysOfTwo (λ r s. meets e r) e.condition
    unfolding meets
    says_first = record {
      is = λ t. sym (same_meets j.tables e t (take n t) (first_scope t) taken.formed);
      fits = below_fits n e.condition fits;
    }

    says_second : SaysOfTwo (λ r s. meets e s) (shifted n e.condition)
    unfolding meets
    says_second = record { is = λ t. sym (shifted_holds t n e.condition); fits = shifted_fits n e.condition fits }

    says_agreed : SaysOfTwo (λ r s. same_row (outputs_of e r) (outputs_of e s)) (agreement n e.outputs)
    unfolding outputs_of
    says_agreed = record {
      is = λ t. rw (agreement_holds t n e.outputs, same_outputs j.tables e t (take n t) (first_scope t) taken.formed);
      fits = agreement_fits n e.outputs (outputs_declared taken);
    }

  -- of one column
  says_equal : (c : ℕ) → c < n → SaysOfTwo (λ r s. eq_z (value r c) (value s c)) (agreement n (c ∷ []))
  says_equal c declared = record {
    is = λ t. rw (agreement_holds t n (c ∷ []), and-true (eq_z (value t c) (value (drop n t) c)), first_value t c declared);
    fits = agreement_fits n (c ∷ []) (λ d m. rw (Memᴰ.eq_of_singleton m) declared);
  }

  -- of the job
  module _ (taken : JobTaken j) where
    says_alike : SaysOfTwo (alike_in_extract j) alike
    unfolding alike_in_extract
    says_alike = says_both (says_both (says_first taken.extract) (says_second taken.extract)) (says_agreed taken.extract)

    says_2 : Says n (witness2 j) asked2
    unfolding witness2
    says_2 = says_both (says_meets taken.query) (says_not (says_meets taken.extract))

    says_3 : SaysOfTwo (witness3 j) asked3
    unfolding witness3
    says_3 = says_both (says_both says_alike (says_first taken.query)) (says_not (says_second taken.query))

    says_4 : SaysOfTwo (witness4 j) asked4
    unfolding witness4
    says_4 =
        says_both (says_both (says_both says_alike (says_first taken.query)) (says_second taken.query))
        (says_not (says_agreed taken.query))

    says_unfixed : (c : ℕ) → c < n → SaysOfTwo (unfixing j c) (unfixed c)
    unfolding unfixing
    says_unfixed c declared = says_both says_alike (says_not (says_equal c declared))

  -- ---- So the decision is right

  module _ (formed : T (well_formed j)) where
    taken : JobTaken j
    taken = job_taken j formed

    pub met_by_solver : some_row (columns j) (meets_query j) ≡ some_solution (columns j) j.query.condition
    met_by_solver = some_by_solver (columns j) taken.bounds (says_meets taken.query)

    pub kind_by_solver_lem : kind_of j ≡ kind_by_solver
    unfolding kind_of kind1 kind2 kind3 kind4 kind_by_solver
    kind_by_solver_lem = rw (
      met_by_solver,
      some_by_solver (columns j) taken.bounds (says_2 taken),
      two_by_solver (columns j) taken.bounds (witness3 j) (says_3 taken),
      two_by_solver (columns j) taken.bounds (witness4 j) (says_4 taken),
    )

    pub listing_by_solver_lem : (c : ℕ) → c < length (columns j) → listing_of j c ≡ listing_by_solver c
    unfolding listing_of fixed listing_by_solver
    listing_by_solver_lem c declared = rw (two_by_solver (columns j) taken.bounds (unfixing j c) (says_unfixed taken c declared))
