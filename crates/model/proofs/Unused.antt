-- Columns of tables that no expression uses play no part in the kind and the listing: other bounds there change neither. Assumes nothing.
use mathlib.Core.Path.{◌≡◌, refl, sym, ◌∙◌}
use mathlib.Core.Bool.{Bool, true, false, not, cond}
use mathlib.Core.List.{List, [], ◌∷◌}
use Prim.Native.Nat.{ℕ, zero, ◌-◌, ◌<◌}
use native.Mathlib.Omega.{arith}
use lib.ListN.{length, take, drop, length-append}
use lib.Signed.{le_z}
use mir.Facts.{and_yes, yes_and}
use lib.Dec.{T, ltb, ltb→lt, eqb}
use Rattle.model.proofs.Formed.{JobFormed}
use Rattle.base.specs.Lists.{all_of, any_of, concat, is_empty}
use Rattle.base.proofs.Lists.{pairwise_length, pairwise_append, pairwise_split}
use Rattle.base.proofs.Tests.{same_test, or_left, or_right}
use Rattle.model.specs.Tables.{Table, Row, Expression, columns_of, table_of, uses, meets, outputs_of, value, inside, within, after}
use Rattle.model.specs.WellFormed.{in_scope, table_formed}
use Rattle.model.specs.Rows.{some_row, two_rows}
use Rattle.model.specs.Unused.{SameTables, job_of, used_by_either}
use Rattle.model.specs.Verdict.{tables_differ, alike_in_extract, witness2, witness3, witness4, kind1, kind2, kind3, kind4, kind_of, unfixing, fixed, listing_of}
use Rattle.model.proofs.Rows.{some_has, has_some, two_has, has_two}
use Rattle.model.proofs.Combinations.{blend, blend_value, lows, lows_within}
use Rattle.model.proofs.Scope.{same_meets, same_outputs}

-- ---- the same tables, where u says so
tables_back : (u : ℕ → Bool) (bs cs : List Table) → SameTables u bs cs → SameTables u cs bs
tables_back u [] [] s = s
tables_back u [] (c ∷ cs) s = absurd s
tables_back u (b ∷ bs) [] s = absurd s
tables_back u (b ∷ bs) (c ∷ cs) (n, e, s) = (sym n, λ t. sym (e t), tables_back (after u) bs cs s)

tables_long : (u : ℕ → Bool) (bs cs : List Table) → SameTables u bs cs → length (columns_of cs) ≡ length (columns_of bs)
tables_long u [] [] s = refl
tables_long u [] (c ∷ cs) s = absurd s
tables_long u (b ∷ bs) [] s = absurd s
tables_long u (b ∷ bs) (c ∷ cs) (n, e, s) =
    rw (length-append c (concat cs), length-append b (concat bs)) (omega (arith, tables_long (after u) bs cs s))

tables_of_lem : (u : ℕ → Bool) (bs cs : List Table) → SameTables u bs cs → (k : ℕ) → table_of cs k ≡ table_of bs k
tables_of_lem u [] [] s k = refl
tables_of_lem u [] (c ∷ cs) s k = absurd s
tables_of_lem u (b ∷ bs) [] s k = absurd s
tables_of_lem u (b ∷ bs) (c ∷ cs) (n, e, s) k = rw (n, tables_of_lem (after u) bs cs s (k - length b))

-- ---- a row of the ones as a row of the others: its values in the tables that u names, lo elsewhere
moved_within : (u : ℕ → Bool) (bs cs : List Table) (r : Row) → SameTables u bs cs → T (all_of table_formed cs) → T (within (columns_of bs) r)
    → T (within (columns_of cs) (blend u cs r))
moved_within u [] [] r s f w = tt
moved_within u [] (c ∷ cs) r s f w = absurd s
moved_within u (b ∷ bs) [] r s f w = absurd s
moved_within u (b ∷ bs) (c ∷ cs) r (n, e, s) f w =
    let (p, g) = and_yes (table_formed c) (all_of table_formed cs) f in
    let (here, there) = pairwise_split inside b (concat bs) r w in
    let rest = moved_within (after u) bs cs (drop (length c) r) s g (rw n there) in
    pairwise_append inside c (concat cs) (cond (u zero) (take (length c) r) (lows c)) _ (front (u zero) e p (rw n here)) rest
  where
    front : (a : Bool) → (T a → c ≡ b) → T (table_formed c) → T (within b (take (length c) r)) → T (within c (cond a (take (length c) r) (lows c)))
    front true e p h = rw (← e tt) at h
    front false e p h = lows_within c (and_yes (not (is_empty c)) (all_of (λ x. le_z x.lo x.hi) c) p).1

-- ---- two jobs that differ in such tables alone
module _ (ts us : List Table) (e q : Expression) (f : JobFormed (job_of ts e q)) (g : JobFormed (job_of us e q)) (same : SameTables (used_by_either e q) ts us) where
  abbrev moved : Row → Row
  moved r = blend (used_by_either e q) us r

  module _ (r : Row) (w : T (within (columns_of ts) r)) where
    inside_too : T (within (columns_of us) (moved r))
    inside_too = moved_within (used_by_either e q) ts us r same g.tables w

    same_value : (c : ℕ) → c < length (columns_of ts) → T (used_by_either e q (table_of ts c)) → value (moved r) c ≡ value r c
    same_value c lt u =
        let long = tables_long (used_by_either e q) ts us same in
        blend_value (used_by_either e q) us r c (pairwise_length inside (columns_of ts) r w ∙ sym long) (omega arith) (rw (tables_of_lem (used_by_either e q) ts us same c) u)

    -- what an expression that uses some of them looks at
    seen : (x : Expression) → ((t : ℕ) → T (uses x t) → T (used_by_either e q t)) → (c : ℕ) → T (in_scope ts x c) → value (moved r) c ≡ value r c
    seen x h c t =
        let (lt, u) = and_yes (ltb c (length (columns_of ts))) (uses x (table_of ts c)) t in
        same_value c (ltb→lt c (length (columns_of ts)) lt) (h (table_of ts c) u)

    extract_seen : (meets e (moved r) ≡ meets e r) × (outputs_of e (moved r) ≡ outputs_of e r)
    extract_seen =
        let h = seen e (λ t u. or_left (uses e t) (uses q t) u) in
        (same_meets ts e (moved r) r h f.extract, same_outputs ts e (moved r) r h f.extract)

    query_seen : (meets q (moved r) ≡ meets q r) × (outputs_of q (moved r) ≡ outputs_of q r)
    query_seen =
        let h = seen q (λ t u. or_right (uses e t) (uses q t) u) in
        (same_meets ts q (moved r) r h f.query, same_outputs ts q (moved r) r h f.query)

  some_moved : (p : Row → Bool) → ((r : Row) → T (within (columns_of ts) r) → p (moved r) ≡ p r) → T (some_row (columns_of ts) p) → T (some_row (columns_of us) p)
  some_moved p h t = let (r, w, x) = some_has (columns_of ts) p t in has_some (columns_of us) p (moved r) (inside_too r w) (rw (h r w) x)

  two_moved : (p : Row → Row → Bool) → ((r s : Row) → T (within (columns_of ts) r) → T (within (columns_of ts) s) → p (moved r) (moved s) ≡ p r s)
      → T (two_rows (columns_of ts) p) → T (two_rows (columns_of us) p)
  two_moved p h t =
      let (r, s, v, w, x) = two_has (columns_of ts) p t in
      has_two (columns_of us) p (moved r) (moved s) (inside_too r v) (inside_too s w) (rw (h r s v w) x)

  alike_moved : (r s : Row) → T (within (columns_of ts) r) → T (within (columns_of ts) s)
      → alike_in_extract (job_of ts e q) (moved r) (moved s) ≡ alike_in_extract (job_of ts e q) r s
  unfolding alike_in_extract
  alike_moved r s v w = let (a, b) = extract_seen r v in let (c, d) = extract_seen s w in rw (a, b, c, d)

  pub kind_1_moved : T (kind1 (job_of ts e q)) → T (kind1 (job_of us e q))
  unfolding kind1 tables_differ
  kind_1_moved t =
      let (d, m) = and_yes (tables_differ (job_of ts e q)) (some_row (columns_of ts) (meets q)) t in
      yes_and (tables_differ (job_of us e q)) (some_row (columns_of us) (meets q)) d (some_moved (meets q) (λ r w. (query_seen r w).0) m)

  pub kind_2_moved : T (kind2 (job_of ts e q)) → T (kind2 (job_of us e q))
  unfolding kind2 witness2
  kind_2_moved = some_moved (witness2 (job_of ts e q)) (λ r w. rw ((query_seen r w).0, (extract_seen r w).0))

  pub kind_3_moved : T (kind3 (job_of ts e q)) → T (kind3 (job_of us e q))
  unfolding kind3 witness3 alike_in_extract
  kind_3_moved = two_moved (witness3 (job_of ts e q)) (λ r s v w. rw (alike_moved r s v w, (query_seen r v).0, (query_seen s w).0))

  pub kind_4_moved : T (kind4 (job_of ts e q)) → T (kind4 (job_of us e q))
  unfolding kind4 witness4 alike_in_extract
  kind_4_moved = two_moved (witness4 (job_of ts e q)) (λ r s v w. let (a, b) = query_seen r v in let (c, d) = query_seen s w in rw (alike_moved r s v w, a, b, c, d))

  pub unfixed_moved : (c : ℕ) → c < length (columns_of ts) → T (used_by_either e q (table_of ts c)) → T (two_rows (columns_of ts) (unfixing (job_of ts e q) c))
      → T (two_rows (columns_of us) (unfixing (job_of us e q) c))
  unfolding unfixing alike_in_extract
  unfixed_moved c lt u = two_moved (unfixing (job_of ts e q) c) (λ r s v w. rw (alike_moved r s v w, same_value r v c lt u, same_value s w c lt u))

-- ---- so kind and listing are the same
abbrev listed_by : Bool → Bool → Bool → ℕ
listed_by used stored unfixed = cond (not used) 0 (cond stored 1 (cond (not unfixed) 2 3))

module _ (ts us : List Table) (e q : Expression) (f : JobFormed (job_of ts e q)) (g : JobFormed (job_of us e q)) (same : SameTables (used_by_either e q) ts us) where
  back : SameTables (used_by_either e q) us ts
  back = tables_back (used_by_either e q) ts us same

  pub same_kind : kind_of (job_of us e q) ≡ kind_of (job_of ts e q)
  unfolding kind_of
  same_kind = rw (
    same_test (kind1 (job_of us e q)) (kind1 (job_of ts e q)) (kind_1_moved us ts e q g f back) (kind_1_moved ts us e q f g same),
    same_test (kind2 (job_of us e q)) (kind2 (job_of ts e q)) (kind_2_moved us ts e q g f back) (kind_2_moved ts us e q f g same),
    same_test (kind3 (job_of us e q)) (kind3 (job_of ts e q)) (kind_3_moved us ts e q g f back) (kind_3_moved ts us e q f g same),
    same_test (kind4 (job_of us e q)) (kind4 (job_of ts e q)) (kind_4_moved us ts e q g f back) (kind_4_moved ts us e q f g same),
  )

  pub same_listing : (c : ℕ) → c < length (columns_of ts) → listing_of (job_of us e q) c ≡ listing_of (job_of ts e q) c
  unfolding listing_of fixed
  same_listing c lt = rw (tables_of_lem (used_by_either e q) ts us same c) (go (uses e (table_of ts c)) refl)
    where
      go : (a : Bool) → uses e (table_of ts c) ≡ a
          → listed_by a (any_of (eqb c) e.outputs) (two_rows (columns_of us) (unfixing (job_of us e q) c))
          ≡ listed_by a (any_of (eqb c) e.outputs) (two_rows (columns_of ts) (unfixing (job_of ts e q) c))
      go false u = refl
      go true u =
          let t : T (used_by_either e q (table_of ts c)) = rw u tt in
          let k : c < length (columns_of us) = let n = tables_long (used_by_either e q) ts us same in omega arith in
          let v : T (used_by_either e q (table_of us c)) = rw (tables_of_lem (used_by_either e q) ts us same c) t in
          rw (same_test (two_rows (columns_of us) (unfixing (job_of us e q) c)) (two_rows (columns_of ts) (unfixing (job_of ts e q) c))
          (unfixed_moved us ts e q g f back c k v) (unfixed_moved ts us e q f g same c lt t))
