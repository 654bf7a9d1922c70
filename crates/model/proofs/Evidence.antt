-- Kinds 1 to 4: the two databases made of the rows that the kind speaks of have the same extract's rows and different query's rows.
-- So kind 0 is exactly that the extract determines the query. Assumes nothing.
use mathlib.Core.Path.{◌≡◌, refl, sym, ap, ◌∙◌}
use mathlib.Core.Logic.{◌⊎◌, inl, inr}
use mathlib.Core.Bool.{Bool, true, false, not, cond, ◌&&◌}
use mathlib.Core.List.Memᴰ
use mathlib.Core.List.{List, [], ◌∷◌}
use Prim.Native.Nat.{ℕ, ◌≤◌}
use native.Mathlib.Omega.{arith}
use lib.ListN.{length, get_or}
use mir.Facts.{and_yes, or_yes}
use lib.Dec.{T, T_not}
use Rattle.model.proofs.Formed.{JobFormed}
use Rattle.base.specs.Lists.{◌∈◌, SameSet}
use Rattle.base.proofs.Lists.{same_is, one_none}
use Rattle.base.proofs.Tests.{T-is, not_is}
use Rattle.model.specs.Tables.{Row, OutputRow, Job, Database, WithinBounds, within, uses, part_of, rows_of}
use Rattle.model.specs.Rows.{some_row, same_row}
use Rattle.model.specs.Verdict.{uses_other, columns, tables_differ, witness2, witness3, witness4, kind1, kind2, kind3, kind4, kind_of, extract_rows, query_rows, Apart, AtMostOneRow, Evidence, answer, meets_extract, stored, meets_query}
use Rattle.model.specs.Pair.{row_database, reduced_database, empty_database}
use Rattle.model.proofs.Rows.{some_has, two_has, is_same_row}
use Rattle.model.proofs.Verdict.{Alike, witness3_has, witness4_has, kind_any}
use Rattle.model.proofs.Combinations.{part_within}
use Rattle.model.proofs.Scope.{other_used, rows_none, rows_empty, rows_one, rows_cong, none_other}

nothing : (b : Bool) → ◌≡◌ {A = List OutputRow} (cond b [] []) []
nothing true = refl
nothing false = refl

-- ---- a database thinned out: no row in some tables
abbrev thinned : (ℕ → Bool) → Database → Database
thinned u d t = cond (u t) (d t) []

module _ (j : Job) (u : ℕ → Bool) (d : Database) where
  thinned_within : WithinBounds j.tables d → WithinBounds j.tables (thinned u d)
  thinned_within w t lt r m = go (u t) m
    where
      go : (b : Bool) → r ∈ cond b (d t) [] → T (within (get_or j.tables t []) r)
      go true n = w t lt r n
      go false n = absurd (Memᴰ.not-nil n)

  thinned_small : AtMostOneRow j d → AtMostOneRow j (thinned u d)
  thinned_small s t lt = go (u t)
    where
      go : (b : Bool) → length (cond b (d t) []) ≤ 1
      go true = s t lt
      go false = omega arith

-- ---- the databases of one row
module _ (j : Job) (formed : JobFormed j) where
  part_rows : Row → Database
  part_rows r t = part_of j.tables r t ∷ []

  none_within : WithinBounds j.tables empty_database
  none_within t lt r m = absurd (Memᴰ.not-nil m)

  none_small : AtMostOneRow j empty_database
  none_small t lt = omega arith

  no_query : query_rows j empty_database ≡ []
  unfolding query_rows
  no_query = rows_empty j.tables j.query empty_database formed.query (λ t. refl)

  no_extract : extract_rows j empty_database ≡ []
  unfolding extract_rows
  no_extract = rows_empty j.tables j.extract empty_database formed.extract (λ t. refl)

  module _ (r : Row) (w : T (within (columns j) r)) where
    parts_within : WithinBounds j.tables (part_rows r)
    unfolding part_rows
    parts_within t lt s m = rw (Memᴰ.eq_of_singleton m) (part_within j.tables r w t lt)

    parts_small : AtMostOneRow j (part_rows r)
    unfolding part_rows
    parts_small t lt = omega arith

    one_within : WithinBounds j.tables (row_database j r)
    unfolding row_database part_rows
    one_within = thinned_within j (uses j.query) (part_rows r) parts_within

    one_small : AtMostOneRow j (row_database j r)
    unfolding row_database part_rows
    one_small = thinned_small j (uses j.query) (part_rows r) parts_small

    less_within : WithinBounds j.tables (reduced_database j r)
    unfolding reduced_database
    less_within = thinned_within j (λ t. uses_other j.query j.extract && uses j.extract t) (row_database j r) one_within

    less_small : AtMostOneRow j (reduced_database j r)
    unfolding reduced_database
    less_small = thinned_small j (λ t. uses_other j.query j.extract && uses j.extract t) (row_database j r) one_small

    one_used : (t : ℕ) → T (uses j.query t) → row_database j r t ≡ part_of j.tables r t ∷ []
    unfolding row_database
    one_used t u = rw (T-is (uses j.query t) u)

    one_unused : (t : ℕ) → T (not (uses j.query t)) → row_database j r t ≡ []
    unfolding row_database
    one_unused t n = rw (not_is (uses j.query t) n)

    query_one : {b : Bool} → meets_query j r ≡ b → query_rows j (row_database j r) ≡ cond b (answer j r ∷ []) []
    unfolding query_rows
    query_one e = rw (← e) (rows_one j.tables j.query formed.query r w (row_database j r) (λ t lt u. one_used t u))

    -- none where the extract uses a table that the query doesn't
    extract_one : {b : Bool} → meets_extract j r ≡ b
        → extract_rows j (row_database j r) ≡ cond (uses_other j.extract j.query) [] (cond b (stored j r ∷ []) [])
    unfolding extract_rows
    extract_one {b} e = go (uses_other j.extract j.query) refl
      where
        go : (o : Bool) → uses_other j.extract j.query ≡ o
            → rows_of j.tables j.extract (row_database j r) ≡ cond o [] (cond b (stored j r ∷ []) [])
        go true f =
            let (t, u, n) = other_used j.extract j.query (rw f tt) in
            rows_none j.tables j.extract (row_database j r) formed.extract t u (one_unused t n)
        go false f =
            let both = none_other j.extract j.query (rw f tt) in
            rw (← e) (rows_one j.tables j.extract formed.extract r w (row_database j r) (λ t lt u. one_used t (both t u)))

    -- ---- kind 1
    module _ (differ : T (tables_differ j)) (q : T (meets_query j r)) where
      -- the query uses a table that the extract doesn't: the second database has no row there
      query_more : T (uses_other j.query j.extract) → Apart j (row_database j r) (reduced_database j r)
      unfolding extract_rows query_rows reduced_database
      query_more o =
          let (t, u, n) = other_used j.query j.extract o in
          let more = T-is (uses_other j.query j.extract) o in
          let kept : (s : ℕ) → T (uses j.extract s) → row_database j r s ≡ reduced_database j r s = λ s v. rw (more, T-is (uses j.extract s) v) in
          let gone : reduced_database j r t ≡ [] = rw (more, not_is (uses j.extract t) n) in
          record {
            first_within = one_within;
            second_within = less_within;
            same_extract = same_is (rows_cong j.tables j.extract (row_database j r) (reduced_database j r) (λ s lt v. kept s v));
            other_query = one_none (query_one (T-is (meets_query j r) q)) (rows_none j.tables j.query (reduced_database j r) formed.query t u gone);
          }

      -- only the extract uses more: neither database has a row there
      extract_more : T (not (uses_other j.query j.extract)) → T (uses_other j.extract j.query)
          → Apart j (row_database j r) (reduced_database j r)
      unfolding extract_rows query_rows reduced_database
      extract_more None-more o =
          let (t, u, n) = other_used j.extract j.query o in
          let bare : (s : ℕ) → reduced_database j r s ≡ [] = λ s. rw (not_is (uses_other j.query j.extract) None-more) in
          record {
            first_within = one_within;
            second_within = less_within;
            same_extract = same_is (
                rows_none j.tables j.extract (row_database j r) formed.extract t u (one_unused t n)
                ∙ sym (rows_empty j.tables j.extract (reduced_database j r) formed.extract bare));
            other_query = one_none (query_one (T-is (meets_query j r) q)) (rows_empty j.tables j.query (reduced_database j r) formed.query bare);
          }

      pub evidence_1 : Evidence j (row_database j r) (reduced_database j r)
      unfolding tables_differ
      evidence_1 =
          let either = or_yes (uses_other j.extract j.query) (uses_other j.query j.extract) differ in
          record { apart = go (uses_other j.query j.extract) refl either; first_small = one_small; second_small = less_small }
        where
          go : (b : Bool) → uses_other j.query j.extract ≡ b
              → T (uses_other j.extract j.query) ⊎ T (uses_other j.query j.extract)
              → Apart j (row_database j r) (reduced_database j r)
          go true e x = query_more (rw e tt)
          go false e (inl x) = extract_more (rw e tt) x
          go false e (inr x) = query_more x

    -- ---- kind 2
    pub evidence_2 : T (witness2 j r) → Evidence j (row_database j r) empty_database
    unfolding witness2
    evidence_2 x =
        let (q, e) = and_yes (meets_query j r) (not (meets_extract j r)) x in
        record {
          apart = record {
            first_within = one_within;
            second_within = none_within;
            same_extract = same_is (extract_one (not_is (meets_extract j r) e) ∙ nothing (uses_other j.extract j.query) ∙ sym no_extract);
            other_query = one_none (query_one (T-is (meets_query j r) q)) no_query;
          };
          first_small = one_small;
          second_small = none_small;
        }

  -- ---- kinds 3 and 4: two rows that the extract can't tell apart
  module _ (r s : Row) (v : T (within (columns j) r)) (w : T (within (columns j) s)) where
    two : Alike j r s → ¬ SameSet (query_rows j (row_database j r)) (query_rows j (row_database j s)) → Evidence j (row_database j r) (row_database j s)
    two t n = record {
      apart = record {
        first_within = one_within r v;
        second_within = one_within s w;
        same_extract = same_is (
            extract_one r v (T-is (meets_extract j r) t.first_extract)
            ∙ ap (λ (x : OutputRow). cond (uses_other j.extract j.query) [] (x ∷ [])) t.agreed
            ∙ sym (extract_one s w (T-is (meets_extract j s) t.second_extract)));
        other_query = n;
      };
      first_small = one_small r v;
      second_small = one_small s w;
    }

    pub evidence_3 : T (witness3 j r s) → Evidence j (row_database j r) (row_database j s)
    evidence_3 x =
        let (t, q, n) = witness3_has j r s x in
        two t (one_none (query_one r v (T-is (meets_query j r) q)) (query_one s w (not_is (meets_query j s) n)))

    pub evidence_4 : T (witness4 j r s) → Evidence j (row_database j r) (row_database j s)
    evidence_4 x =
        let (t, qr, qs, n) = witness4_has j r s x in
        two t (λ same.
        let first : answer j r ∈ query_rows j (row_database j r) = rw (query_one r v (T-is (meets_query j r) qr)) (Memᴰ.head refl) in
        let second = rw (query_one s w (T-is (meets_query j s) qs)) at ((same (answer j r)).0 first) in
        T_not (same_row (answer j r) (answer j s)) n (is_same_row (Memᴰ.eq_of_singleton second)))

  -- some two, where the kind isn't 0
  pub some_evidence : ¬ (kind_of j ≡ 0) → (d : Database) × (f : Database) × Evidence j d f
  unfolding kind1 kind2 kind3 kind4
  some_evidence = kind_any j
      (λ k.
      let (differ, m) = and_yes (tables_differ j) (some_row (columns j) (meets_query j)) k in
      let (r, w, q) = some_has (columns j) (meets_query j) m in
      (row_database j r, reduced_database j r, evidence_1 r w differ q))
      (λ k. let (r, w, x) = some_has (columns j) (witness2 j) k in (row_database j r, empty_database, evidence_2 r w x))
      (λ k. let (r, s, v, w, x) = two_has (columns j) (witness3 j) k in (row_database j r, row_database j s, evidence_3 r s v w x))
      (λ k. let (r, s, v, w, x) = two_has (columns j) (witness4 j) k in (row_database j r, row_database j s, evidence_4 r s v w x))
