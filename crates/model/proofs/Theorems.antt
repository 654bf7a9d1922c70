-- The theorems about document 01's meanings, for every well-formed job: of the two halves of well-formed they need the structure alone.
-- Assumes nothing.
use mathlib.Core.Path.{◌≡◌, refl, ap}
use mathlib.Core.Logic.{◌↔◌}
use mathlib.Core.Bool.{Bool, true, false, not, cond}
use mathlib.Core.List.{List, [], ◌∷◌}
use mathlib.Core.Option.{Option, none, some}
use Prim.Native.Nat.{ℕ, ◌<◌, ◌≤◌}
use lib.ListN.{length, get_or}
use native.Mathlib.Decide.{ℕ_discrete}
use lib.Dec.{T, eqb}
use Rattle.model.specs.Unused.{SameTables, job_of, used_by_either}
use Rattle.model.proofs.Formed.{JobFormed, is_formed, job_formed}
use Rattle.base.specs.Lists.{◌∈◌, SameSet, Distinct, any_of, all_of, once, concat, flat_map}
use Rattle.base.proofs.Lists.{all_has, has_all, any_has, has_any, same_is, same_sym, same_trans}
use Rattle.model.specs.Tables.{Clause, comparison_holds, Table, Row, OutputRow, Comparison, Expression, Job, clause_holds, meets, outputs_of, uses, table_of, within, Database, WithinBounds, rows_of, columns_of, Condition, value, condition_holds, part_of, TableRow}
use Rattle.model.specs.declared.Bounds.{Bounds}
use Rattle.model.specs.WellFormed.{table_formed, expression_formed, structured, in_scope}
use Rattle.model.specs.Rows.{some_row, two_rows, same_row}
use Rattle.model.specs.Least.{at_most_row, least_row}
use Rattle.model.specs.Verdict.{columns, witness2, witness3, witness4, kind_of, listing_of, extract_rows, query_rows, Determined, Apart, Evidence, answer, meets_extract, stored, meets_query, HandedOut, tables_differ}
use Rattle.model.specs.Pair.{row_database, reduced_database, empty_database}
use Rattle.model.specs.Running.{fill_of, run_of, MayGive, given}
use Rattle.model.proofs.Rows.{some_has, has_some, two_has, has_two}
use Rattle.model.proofs.Least as least
use Rattle.model.proofs.Verdict.{never_met}
use Rattle.model.proofs.Running as running
use Rattle.model.proofs.Scope.{same_meets, same_outputs, rows_are, rows_cong}
use Rattle.model.proofs.Evidence as found
use Rattle.model.proofs.Unused.{same_kind, same_listing}
use Rattle.model.proofs.Listing.{listing_0, listing_1, listing_2, listing_most}

-- ---- what the searches over all rows, conditions and an expression's rows mean

pub some_row_lem : (bs : List Bounds) (p : Row → Bool) → T (some_row bs p) ↔ ((r : Row) × T (within bs r) × T (p r))
some_row_lem bs p = (some_has bs p, λ (r, w, t). has_some bs p r w t)

pub two_rows_lem : (bs : List Bounds) (p : Row → Row → Bool) → T (two_rows bs p) ↔ ((r : Row) × (s : Row) × T (within bs r) × T (within bs s) × T (p r s))
two_rows_lem bs p = (two_has bs p, λ (r, s, v, w, t). has_two bs p r s v w t)

pub clause_holds_lem : (r : Row) (c : Clause) → T (clause_holds r c) ↔ ((k : Comparison) → k ∈ c → T (comparison_holds r k))
unfolding clause_holds
clause_holds_lem r c = (λ t k m. all_has (comparison_holds r) m t, has_all (comparison_holds r) c)

pub condition_holds_lem : (r : Row) (k : Condition) → T (condition_holds r k) ↔ ((c : Clause) × (c ∈ k) × T (clause_holds r c))
unfolding condition_holds
condition_holds_lem r k = (any_has (clause_holds r) k, λ (c, m, t). has_any (clause_holds r) m t)

-- so a condition without clauses rejects every row, and one with an empty clause none
pub no_clause_lem : (r : Row) → condition_holds r [] ≡ false
unfolding condition_holds
no_clause_lem r = refl

pub empty_clause : (r : Row) (k : Condition) → condition_holds r ([] ∷ k) ≡ true
unfolding condition_holds clause_holds
empty_clause r k = refl

-- a database may have any rows within bounds, any number of them
pub any_database : (ts : List Table) (d : Database) → ((t : ℕ) → t < length ts → T (all_of (within (get_or ts t [])) (d t))) → WithinBounds ts d
any_database ts d a t lt r m = all_has (within (get_or ts t [])) m (a t lt)

module _ (ts : List Table) (e : Expression) (formed : T (expression_formed ts e)) where
  -- columns of tables that the expression doesn't use play no part in it
  pub other_columns : (r s : Row) → ((c : ℕ) → T (in_scope ts e c) → value r c ≡ value s c) → (meets e r ≡ meets e s) × (outputs_of e r ≡ outputs_of e s)
  other_columns r s alike = let f = is_formed ts e formed in (same_meets ts e r s alike f, same_outputs ts e r s alike f)

  -- its rows are the outputs of every row within bounds that meets the condition and whose part in each used table is a row of that table
  pub expression_rows : (d : Database) → T (all_of table_formed ts) → WithinBounds ts d → (o : OutputRow)
      → (o ∈ rows_of ts e d)
      ↔ ((r : Row) × T (within (columns_of ts) r) × ((t : ℕ) → t < length ts → T (uses e t) → part_of ts r t ∈ d t) × T (meets e r) × (outputs_of e r ≡ o))
  expression_rows d f w o = rows_are ts e d f (is_formed ts e formed) w o

-- a table that neither expression uses plays no part in the verdict: whatever bounds its columns have, kind and listing are the same
pub unused_tables : (ts us : List Table) (e q : Expression) → T (structured (job_of ts e q)) → T (structured (job_of us e q)) → SameTables (used_by_either e q) ts us
    → (kind_of (job_of us e q) ≡ kind_of (job_of ts e q)) × ((c : ℕ) → c < length (columns_of ts) → listing_of (job_of us e q) c ≡ listing_of (job_of ts e q) c)
unused_tables ts us e q f g same =
    let a = job_formed (job_of ts e q) f in
    let b = job_formed (job_of us e q) g in
    (same_kind ts us e q a b same, same_listing ts us e q a b same)

-- where no row meets the query's condition the kind is 0, whatever else holds
pub query_never_met : (j : Job) → T (not (some_row (columns j) (meets_query j))) → kind_of j ≡ 0
query_never_met = never_met

module _ (j : Job) (formed : T (structured j)) where
  job : JobFormed j
  job = job_formed j formed

  -- ---- 1. The kind is 0 exactly where the extract determines the query, over all databases

  determines : kind_of j ≡ 0 → Determined j
  determines k d f v w s =
      let e = extract_rows j d in
      same_trans (same_sym (running.run_same j job k d v e (same_is refl))) (running.run_same j job k f w e s)

  pub computable_is : kind_of j ≡ 0 ↔ Determined j
  computable_is = (determines, λ all. go all (ℕ_discrete (kind_of j) 0))
    where
      go : Determined j → Dec (kind_of j ≡ 0) → kind_of j ≡ 0
      go all (yes e) = e
      go all (no n) =
          let (d, f, e) = found.some_evidence j job n in
          let a = e.apart in
          absurd (a.other_query (all d f a.first_within a.second_within a.same_extract))

  -- and not 0 exactly where two databases show that it doesn't
  pub not_computable_is : ¬ (kind_of j ≡ 0) ↔ ((d : Database) × (f : Database) × Apart j d f)
  not_computable_is = (
    λ n. let (d, f, e) = found.some_evidence j job n in (d, f, e.apart),
    λ (d, f, a) k. a.other_query (determines k d f a.first_within a.second_within a.same_extract),
  )

  -- ---- 2. Where the kind is 1 to 4, two small databases show it

  pub evidence : ¬ (kind_of j ≡ 0) → (d : Database) × (f : Database) × Evidence j d f
  evidence n = found.some_evidence j job n

  -- so there is always a pair to hand out
  pub some_pair : (d : Database) × (f : Database) × HandedOut j d f
  some_pair = go (ℕ_discrete (kind_of j) 0)
    where
      go : Dec (kind_of j ≡ 0) → (d : Database) × (f : Database) × HandedOut j d f
      go (yes k) = (empty_database, empty_database, record { with_0 = λ e t lt. (refl, refl); with_others = λ n. absurd (n k) })
      go (no n) = let (d, f, e) = evidence n in (d, f, record { with_0 = λ k. absurd (n k); with_others = λ m. e })

  -- evidence made of any row, or any two, that the kind speaks of
  pub evidence_1 : T (tables_differ j) → (r : Row) → T (within (columns j) r) → T (meets_query j r) → Evidence j (row_database j r) (reduced_database j r)
  evidence_1 differ r w q = found.evidence_1 j job r w differ q

  pub evidence_2 : (r : Row) → T (within (columns j) r) → T (witness2 j r) → Evidence j (row_database j r) empty_database
  evidence_2 = found.evidence_2 j job

  pub evidence_3 : (r s : Row) → T (within (columns j) r) → T (within (columns j) s) → T (witness3 j r s)
      → Evidence j (row_database j r) (row_database j s)
  evidence_3 = found.evidence_3 j job

  pub evidence_4 : (r s : Row) → T (within (columns j) r) → T (within (columns j) s) → T (witness4 j r s)
      → Evidence j (row_database j r) (row_database j s)
  evidence_4 = found.evidence_4 j job

  -- ---- 3. Where the kind is 0, running on the extract's rows lists the query's rows, each once

  pub run_lists : kind_of j ≡ 0 → (d : Database) → WithinBounds j.tables d → (ss : List OutputRow) → SameSet ss (extract_rows j d)
      → SameSet (run_of j ss) (query_rows j d) × Distinct (run_of j ss)
  run_lists k d w ss s = (running.run_same j job k d w ss s, running.run_distinct j ss)

-- ---- 4. Filling lists the extract's rows on a database, each once, from any ranges that hold the rows of the used tables

module _ (j : Job) where
  pub fill_lists : (d : Database) (ranges : ℕ → List TableRow)
      → ((t : ℕ) → t < length j.tables → T (uses j.extract t) → SameSet (ranges t) (d t))
      → SameSet (fill_of j ranges) (extract_rows j d) × Distinct (fill_of j ranges)
  fill_lists d ranges h = (running.fill_same j d ranges h, running.fill_distinct j ranges)

  -- ranges of other tables make no difference
  pub fill_unused : (ranges other : ℕ → List TableRow) → ((t : ℕ) → t < length j.tables → T (uses j.extract t) → ranges t ≡ other t)
      → fill_of j ranges ≡ fill_of j other
  unfolding fill_of extract_rows
  fill_unused ranges other h = ap (once same_row) (rows_cong j.tables j.extract ranges other h)

-- ---- 5. Where the kind is 0, a run's rows don't depend on which rows stand in for the stored ones

-- each stored row gives something that it may give
abbrev pub EachGives : Job → List OutputRow → List (List OutputRow) → Type 0
EachGives j [] [] = Unit {0}
EachGives j [] (g ∷ gs) = ⊥
EachGives j (s ∷ ss) [] = ⊥
EachGives j (s ∷ ss) (g ∷ gs) = MayGive j s g × EachGives j ss gs

module _ (j : Job) (formed : T (structured j)) (computable : kind_of j ≡ 0) where
  same_given : (ss : List OutputRow) (gs : List (List OutputRow)) → EachGives j ss gs → concat gs ≡ flat_map ss (given j)
  same_given [] [] m = refl
  same_given [] (g ∷ gs) m = absurd m
  same_given (s ∷ ss) [] m = absurd m
  same_given (s ∷ ss) (g ∷ gs) m = rw (running.only_given j (job_formed j formed) computable s g m.0, same_given ss gs m.1)

  pub run_by_any : (ss : List OutputRow) (gs : List (List OutputRow)) → EachGives j ss gs → once same_row (concat gs) ≡ run_of j ss
  unfolding run_of
  run_by_any ss gs m = ap (once same_row) (same_given ss gs m)

  -- any row that has the stored values and meets the extract's condition decides whether the stored row gives a query row, and which
  pub one_row_decides : (s : OutputRow) (r : Row) → T (within (columns j) r) → stored j r ≡ s → T (meets_extract j r)
      → given j s ≡ cond (meets_query j r) (answer j r ∷ []) []
  one_row_decides s r w a e = running.given_decides j (job_formed j formed) computable s r w a e

-- ---- 6. The listing, and what its 2 means: rows that the extract can't tell apart don't differ in the column

module _ (j : Job) (c : ℕ) where
  pub listing_unused : listing_of j c ≡ 0 ↔ T (not (uses j.extract (table_of j.tables c)))
  listing_unused = listing_0 j c

  pub listing_stored : listing_of j c ≡ 1 ↔ T (uses j.extract (table_of j.tables c)) × T (any_of (eqb c) j.extract.outputs)
  listing_stored = listing_1 j c

  pub listing_fixed : listing_of j c ≡ 2 ↔ T (uses j.extract (table_of j.tables c)) × T (not (any_of (eqb c) j.extract.outputs))
      × ((r s : Row) → T (within (columns j) r) → T (within (columns j) s) → T (meets_extract j r) → T (meets_extract j s) → stored j r ≡ stored j s
      → value r c ≡ value s c)
  listing_fixed = listing_2 j c

  -- and 3 is what is left
  pub listing_neither : listing_of j c ≤ 3
  listing_neither = listing_most j c

-- ---- 7. The least row of a list of comparisons

module _ (bs : List Bounds) (ks : List Comparison) where
  -- none exactly where no row within bounds meets the list
  pub least_none : least_row bs ks ≡ none ↔ ((r : Row) → T (within bs r) → T (clause_holds r ks) → ⊥)
  least_none = (λ e r w h. least.least_found_lem bs ks r (w, h) e, λ n. go (least_row bs ks) refl n)
    where
      go : (o : Option Row) → least_row bs ks ≡ o → ((r : Row) → T (within bs r) → T (clause_holds r ks) → ⊥) → o ≡ none
      go none e n = refl
      go (some r) e n = let ((w, h), low) = least.least_is bs ks r e in absurd (n r w h)

  -- else the row that meets it and is in every column at most every row that meets it
  pub least_some : (r : Row)
      → least_row bs ks ≡ some r ↔ T (within bs r) × T (clause_holds r ks) × ((s : Row) → T (within bs s) → T (clause_holds s ks) → T (at_most_row r s))
  least_some r = (
    λ e. let ((w, h), low) = least.least_is bs ks r e in (w, h, λ s v i. low s (v, i)),
    λ (w, h, low). least.is_least_lem bs ks r (w, h) (λ s (v, i). low s v i),
  )
