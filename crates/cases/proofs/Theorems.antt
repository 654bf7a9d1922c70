-- Document 01's cases hold for the definitions: one theorem over the table, which the checker computes by the solver's definitions.
-- Assumes nothing.
use mathlib.Core.Path.{◌≡◌, refl, sym, ap, ◌∙◌}
use mathlib.Core.Bool.{Bool, true, false, not, ◌&&◌}
use mathlib.Core.List.Memᴰ
use mathlib.Core.List.{List, [], ◌∷◌}
use mathlib.Core.Option.{Option, none, some}
use Prim.Native.Nat.{ℕ, suc, ◌-◌, ◌≤◌}
use native.Mathlib.Omega.{arith}
use lib.ListN.{length, get_or}
use lib.Dec.{T, T_not, eqb, eqb→eq, ltb, ltb→lt}
use mir.Facts.{and_yes}
use Rattle.base.specs.Lists.{◌∈◌, any_of, all_of, tabulate}
use Rattle.base.proofs.Lists.{any_has, all_has}
use Rattle.base.proofs.Places.{all_at, tabulate_length, tabulate_at}
use Rattle.model.specs.Tables.{Row, OutputRow, Job, Database, WithinBounds, uses}
use Rattle.model.specs.WellFormed.{expression_formed, structured, condition_limited, limited, well_formed}
use Rattle.model.specs.Rows.{some_row, same_row}
use Rattle.model.specs.Verdict.{uses_other, columns, meets_query, tables_differ, query_rows}
use Rattle.model.proofs.Rows.{has_some, same_row_is}
use Rattle.model.proofs.Scope.{rows_are}
use Rattle.zone.specs.Matrix.{matrix}
use Rattle.zone.specs.Zone.{boxed, allows, tightened, constrained, least_of}
use Rattle.solver.specs.Comparisons.{constraints_of}
use Rattle.solver.specs.Solver.{solvable, box_of, imposed_by, imposed, zone_of, solution}
use Rattle.solver.proofs.Formed.{JobTaken, job_taken}
use Rattle.solver.proofs.Theorems.{least_solution}
use Rattle.cases.specs.Cases.{Statement, kind, listing, no_rows, least, Holds, Entry, cases}
use Rattle.cases.proofs.Solving.{some_solution}
use Rattle.cases.proofs.Decide.{kind_by_solver, listing_by_solver, met_by_solver, kind_by_solver_lem, listing_by_solver_lem}

-- ---- The test of an entry

abbrev same_found : Option Row → Option Row → Bool
same_found none none = true
same_found none (some s) = false
same_found (some r) none = false
same_found (some r) (some s) = same_row r s

unfoldable passes : Statement → Bool
unfolding well_formed structured limited expression_formed condition_limited uses kind_by_solver listing_by_solver tables_differ uses_other
passes (kind j k) = well_formed j && eqb (kind_by_solver j) k
passes (listing j c l) = well_formed j && ltb c (length (columns j)) && eqb (listing_by_solver j c) l
passes (no_rows j) = well_formed j && not (some_solution (columns j) j.query.condition)
passes (least bs ks o) = solvable bs ks && same_found (solution bs ks) o

-- ---- What passes holds

same_found_lem : (o p : Option Row) → T (same_found o p) → o ≡ p
same_found_lem none none t = refl
same_found_lem none (some s) t = absurd t
same_found_lem (some r) none t = absurd t
same_found_lem (some r) (some s) t = ap some (same_row_is r s t)

-- where no row meets its condition, the query has no row on any database
never_met : (j : Job) → JobTaken j → T (not (some_row (columns j) (meets_query j))) → (d : Database) → WithinBounds j.tables d → query_rows j d ≡ []
unfolding query_rows
never_met j taken never d w = go (query_rows j d) (λ o m.
    let (r, v, c, q, a) = (rows_are j.tables j.query d taken.tables taken.query.formed w o).0 m in
    T_not (some_row (columns j) (meets_query j)) never (has_some (columns j) (meets_query j) r v q))
  where
    go : (os : List OutputRow) → ((o : OutputRow) → o ∈ os → ⊥) → os ≡ []
    go [] h = refl
    go (o ∷ os) h = absurd (h o (Memᴰ.head refl))

passing_holds : (s : Statement) → T (passes s) → Holds s
unfolding passes
passing_holds (kind j k) t =
    let (w, e) = and_yes (well_formed j) (eqb (kind_by_solver j) k) t in
    (w, kind_by_solver_lem j w ∙ eqb→eq (kind_by_solver j) k e)
passing_holds (listing j c l) t =
    let (h, e) = and_yes (well_formed j && ltb c (length (columns j))) (eqb (listing_by_solver j c) l) t in
    let (w, d) = and_yes (well_formed j) (ltb c (length (columns j))) h in
    let declared = ltb→lt c (length (columns j)) d in
    (w, declared, listing_by_solver_lem j w c declared ∙ eqb→eq (listing_by_solver j c) l e)
passing_holds (no_rows j) t =
    let (w, n) = and_yes (well_formed j) (not (some_solution (columns j) j.query.condition)) t in
    (w, never_met j (job_taken j w) (rw (met_by_solver j w) n))
passing_holds (least bs ks o) t =
    let (s, e) = and_yes (solvable bs ks) (same_found (solution bs ks) o) t in
    sym (least_solution bs ks s) ∙ same_found_lem (solution bs ks) o e

-- ---- The theorem: every entry passes, which is computed

pub cases_hold : (e : Entry) → e ∈ cases → Holds e.states
unfolding cases passes solvable solution zone_of box_of imposed_by imposed constraints_of boxed constrained allows tightened least_of matrix
cases_hold e m = passing_holds e.states (all_has (λ e. passes e.states) m tt)

-- none of 1 to 15 is left out
pub cases_all : (n : ℕ) → 1 ≤ n → n ≤ 15 → (e : Entry) × (e ∈ cases) × (e.number ≡ n)
unfolding cases
cases_all n low high =
    let here : ℕ → Bool = λ i. any_of (λ e. eqb e.number i) cases in
    let last : suc (n - 1) ≡ n = omega arith in
    let all : T (all_of here (tabulate 15 suc)) = tt in
    let there : T (here (get_or (tabulate 15 suc) (n - 1) 0)) = all_at here (tabulate 15 suc) (n - 1) 0 all (omega (arith, tabulate_length 15 suc)) in
    let (e, m, h) = any_has (λ e. eqb e.number n) cases (rw (tabulate_at 15 suc (n - 1) 0 (omega arith), last) at there) in
    (e, m, eqb→eq e.number n h)
