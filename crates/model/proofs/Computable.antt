-- What kind 0 says of a row that meets the query's condition, and of two rows that the extract can't tell apart.
-- Rests on predicates, outputs and used tables alone. Assumes nothing.
use mathlib.Core.Path.{◌≡◌, refl}
use mathlib.Core.Bool.{not}
use mir.Facts.{yes_and}
use lib.Dec.{T, T_not}
use Rattle.model.proofs.Formed.{JobFormed}
use Rattle.base.proofs.Tests.{stable}
use Rattle.model.specs.Tables.{Row, Job, Database, within, uses, combinations}
use Rattle.model.specs.Rows.{same_row}
use Rattle.model.specs.Verdict.{columns, witness2, witness3, witness4, kind1, kind2, kind3, kind4, kind_of, answer, meets_extract, meets_query}
use Rattle.model.proofs.Rows.{has_some, has_two, same_row_is}
use Rattle.model.proofs.Verdict.{Alike, has_witness3, has_witness4, NoKind, kind_0, tables_same, same_uses}
use Rattle.model.proofs.Combinations.{combinations_cong}

module _ (j : Job) (formed : JobFormed j) (kind0 : kind_of j ≡ 0) where
  none_applies : NoKind (kind1 j) (kind2 j) (kind3 j) (kind4 j)
  none_applies = kind_0 j kind0

  -- a row that meets the query's condition
  module _ (r : Row) (w : T (within (columns j) r)) (q : T (meets_query j r)) where
    -- the used tables are the same, and so are the combinations
    pub same_combinations : (d : Database) → combinations (uses j.extract) j.tables d ≡ combinations (uses j.query) j.tables d
    same_combinations d =
        let same = same_uses j (tables_same j none_applies.not1 r w q) in
        combinations_cong (uses j.extract) (uses j.query) j.tables d d (λ t lt. same t) (λ t lt u. refl)

    -- it meets the extract's too
    pub extract_met : T (meets_extract j r)
    unfolding kind2 witness2
    extract_met = stable (meets_extract j r) (λ x.
        T_not (kind2 j) none_applies.not2 (has_some (columns j) (witness2 j) r w (yes_and (meets_query j r) (not (meets_extract j r)) q x)))

  -- two rows that the extract can't tell apart, of which the query wants the first
  module _ (r s : Row) (v : T (within (columns j) r)) (w : T (within (columns j) s)) (t : Alike j r s) (qr : T (meets_query j r)) where
    pub query_met : T (meets_query j s)
    unfolding kind3
    query_met = stable (meets_query j s) (λ n. T_not (kind3 j) none_applies.not3 (has_two (columns j) (witness3 j) r s v w (has_witness3 j r s t qr n)))

    pub same_answer : answer j r ≡ answer j s
    unfolding kind4
    same_answer = same_row_is (answer j r) (answer j s) (stable (same_row (answer j r) (answer j s)) (λ n.
        T_not (kind4 j) none_applies.not4 (has_two (columns j) (witness4 j) r s v w (has_witness4 j r s t qr query_met n))))
