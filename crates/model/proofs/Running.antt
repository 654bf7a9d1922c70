-- Running and filling: where the kind is 0 any row that a stored row can come from gives the same answer, so running lists the query's rows.
-- Rests on predicates, outputs and used tables alone. Assumes nothing.
use mathlib.Core.Path.{◌≡◌, refl, sym, ◌∙◌}
use mathlib.Core.Bool.{Bool, true, false, cond, ◌&&◌}
use mathlib.Core.List.Memᴰ
use mathlib.Core.List.{List, [], ◌∷◌}
use Prim.Native.Nat.{ℕ, ◌<◌}
use lib.ListN.{length}
use mathlib.Core.Option.{Option, none, some}
use mir.Facts.{and_yes, yes_and}
use lib.Dec.{T, T_not, not_T}
use Rattle.model.proofs.Formed.{JobFormed}
use Rattle.base.specs.Lists.{◌∈◌, SameSet, Distinct, flat_map, find}
use Rattle.base.specs.Options.{if_any}
use Rattle.base.proofs.Lists.{find_some, find_none, flat_map_has, has_flat_map, once_has, has_once, once_distinct}
use Rattle.base.proofs.Tests.{T-is}
use Rattle.model.specs.Tables.{Row, OutputRow, Job, Database, WithinBounds, within, uses, combinations, rows_of, TableRow}
use Rattle.model.specs.Rows.{box, some_row, same_row}
use Rattle.model.specs.Verdict.{columns, kind_of, extract_rows, query_rows, answer, meets_extract, stored, meets_query}
use Rattle.model.specs.Running.{fill_of, stands_in, run_of, MayGive, given}
use Rattle.model.proofs.Rows.{box_has, has_box, some_has, has_some, same_row_is, same_row_refl, is_same_row}
use Rattle.model.proofs.Verdict.{Alike}
use Rattle.model.proofs.Combinations.{combinations_within}
use Rattle.model.proofs.Scope.{rows_has, has_rows, rows_more}
use Rattle.model.proofs.Computable.{same_combinations, extract_met, query_met, same_answer}

-- ---- stand-ins

-- what it is to stand in for a stored row
stands_is : (j : Job) (s : OutputRow) (r : Row) → T (stands_in j s r) → (stored j r ≡ s) × T (meets_extract j r) × T (meets_query j r)
unfolding stands_in
stands_is j s r t =
    let (h, q) = and_yes (same_row (stored j r) s && meets_extract j r) (meets_query j r) t in
    let (a, e) = and_yes (same_row (stored j r) s) (meets_extract j r) h in
    (same_row_is (stored j r) s a, e, q)

is_stands : (j : Job) (s : OutputRow) (r : Row) → stored j r ≡ s → T (meets_extract j r) → T (meets_query j r) → T (stands_in j s r)
unfolding stands_in
is_stands j s r a e q = let h = is_same_row a in search yes_and

-- what a stored row gives it may give
pub given_may : (j : Job) (s : OutputRow) → MayGive j s (given j s)
unfolding given
given_may j s = go (find (stands_in j s) (box (columns j))) refl
  where
    go : (o : Option Row) → find (stands_in j s) (box (columns j)) ≡ o → MayGive j s (if_any o (answer j))
    go none e = not_T (some_row (columns j) (stands_in j s)) (λ x.
        let (r, w, t) = some_has (columns j) (stands_in j s) x in
        find_none (stands_in j s) (has_box (columns j) r w) t e)
    go (some r) e = let (m, t) = find_some (stands_in j s) (box (columns j)) e in (r, box_has (columns j) m, t, refl)

module _ (j : Job) (formed : JobFormed j) (kind0 : kind_of j ≡ 0) where
  -- Any row that has the stored values and meets the extract's condition decides: where it meets the query's, the stored row may give its outputs
  -- and no others, and otherwise nothing
  one_decides : (s : OutputRow) (os : List OutputRow) → MayGive j s os → (r : Row) → T (within (columns j) r) → stored j r ≡ s
      → T (meets_extract j r) → os ≡ cond (meets_query j r) (answer j r ∷ []) []
  one_decides s [] m r w a e = go (meets_query j r) refl
    where
      go : (b : Bool) → meets_query j r ≡ b → [] ≡ cond b (answer j r ∷ []) []
      go true q = absurd (T_not (some_row (columns j) (stands_in j s)) m (has_some (columns j) (stands_in j s) r w (is_stands j s r a e (rw q tt))))
      go false q = refl
  one_decides s (o ∷ []) (x, v, y, f) r w a e =
      let (c, ex, qx) = stands_is j s x y in
      let t : Alike j x r = record { first_extract = ex; second_extract = e; agreed = c ∙ sym a } in
      rw (T-is (meets_query j r) (query_met j formed kind0 x r v w t qx), ← f, same_answer j formed kind0 x r v w t qx)
  one_decides s (o ∷ p ∷ os) m r w a e = absurd m

  pub given_decides : (s : OutputRow) (r : Row) → T (within (columns j) r) → stored j r ≡ s → T (meets_extract j r)
      → given j s ≡ cond (meets_query j r) (answer j r ∷ []) []
  given_decides s r w a e = one_decides s (given j s) (given_may j s) r w a e

  -- so nothing else may be given than what is
  pub only_given : (s : OutputRow) (os : List OutputRow) → MayGive j s os → os ≡ given j s
  only_given s [] m = go (given j s) (given_may j s)
    where
      go : (ps : List OutputRow) → MayGive j s ps → [] ≡ ps
      go [] n = refl
      go (p ∷ []) (r, w, t, f) = absurd (T_not (some_row (columns j) (stands_in j s)) m (has_some (columns j) (stands_in j s) r w t))
      go (p ∷ q ∷ ps) n = absurd n
  only_given s (o ∷ []) (r, w, t, f) =
      let (a, e, q) = stands_is j s r t in
      sym (given_decides s r w a e ∙ rw (T-is (meets_query j r) q, f))
  only_given s (o ∷ p ∷ os) m = absurd m

-- ---- running on the extract's rows
module _ (j : Job) (formed : JobFormed j) (kind0 : kind_of j ≡ 0) (d : Database) (inside : WithinBounds j.tables d) where
  -- a combination that meets the extract's condition, and what its stored row gives
  module _ (r : Row) (c : r ∈ combinations (uses j.extract) j.tables d) (e : T (meets_extract j r)) where
    combined : T (within (columns j) r)
    combined = combinations_within (uses j.extract) j.tables d formed.tables inside c

    given_is : given j (stored j r) ≡ cond (meets_query j r) (answer j r ∷ []) []
    given_is = given_decides j formed kind0 (stored j r) r combined refl e

  to_query_lem : {s o : OutputRow} → s ∈ extract_rows j d → o ∈ given j s → o ∈ query_rows j d
  unfolding extract_rows query_rows
  to_query_lem {s} {o} m g =
      let (r, c, e, a) = rows_has j.tables j.extract d m in
      go r c e (meets_query j r) refl (rw (← a, given_is r c e) at g)
    where
      go : (r : Row) → r ∈ combinations (uses j.extract) j.tables d → T (meets_extract j r) → (b : Bool) → meets_query j r ≡ b
          → o ∈ cond b (answer j r ∷ []) [] → o ∈ rows_of j.tables j.query d
      go r c e true q n =
          let met : T (meets_query j r) = rw q tt in
          Memᴰ.cast (Memᴰ.eq_of_singleton n) (has_rows j.tables j.query d (rw (same_combinations j formed kind0 r (combined r c e) met d) at c) met)
      go r c e false q n = absurd (Memᴰ.not-nil n)

  of_query : {o : OutputRow} → o ∈ query_rows j d → (s : OutputRow) × (s ∈ extract_rows j d) × (o ∈ given j s)
  unfolding extract_rows query_rows
  of_query {o} m =
      let (r, c, q, a) = rows_has j.tables j.query d m in
      let w = combinations_within (uses j.query) j.tables d formed.tables inside c in
      let e = extract_met j formed kind0 r w q in
      let k : r ∈ combinations (uses j.extract) j.tables d = rw (← (same_combinations j formed kind0 r w q d)) at c in
      (stored j r, has_rows j.tables j.extract d k e, rw (given_is r k e, T-is (meets_query j r) q, a) (Memᴰ.head refl))

  pub run_same : (ss : List OutputRow) → SameSet ss (extract_rows j d) → SameSet (run_of j ss) (query_rows j d)
  unfolding run_of
  run_same ss same o = (
    λ m. let (s, n, g) = flat_map_has ss (given j) (once_has same_row (flat_map ss (given j)) m) in to_query_lem ((same s).0 n) g,
    λ m. let (s, n, g) = of_query m in has_once same_row same_row_is (has_flat_map (given j) ((same s).1 n) g),
  )

pub run_distinct : (j : Job) (ss : List OutputRow) → Distinct (run_of j ss)
unfolding run_of
run_distinct j ss = once_distinct same_row same_row_refl (flat_map ss (given j))

-- ---- filling
pub fill_same : (j : Job) (d : Database) (ranges : ℕ → List TableRow) → ((t : ℕ) → t < length j.tables → T (uses j.extract t) → SameSet (ranges t) (d t))
    → SameSet (fill_of j ranges) (extract_rows j d)
unfolding fill_of extract_rows
fill_same j d ranges h o = (
  λ m. rows_more j.tables j.extract ranges d (λ t lt u x. (h t lt u x).0) (once_has same_row (extract_rows j ranges) m),
  λ m. has_once same_row same_row_is (rows_more j.tables j.extract d ranges (λ t lt u x. (h t lt u x).1) m),
)

pub fill_distinct : (j : Job) (ranges : ℕ → List TableRow) → Distinct (fill_of j ranges)
unfolding fill_of
fill_distinct j ranges = once_distinct same_row same_row_refl (extract_rows j ranges)
