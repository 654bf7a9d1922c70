-- The two databases of a well-formed job's finding are what is to be handed out. Assumes nothing.
use mathlib.Core.Path.{◌≡◌, refl, sym, ap, ◌∙◌}
use mathlib.Core.Bool.{Bool, true, false, cond, ◌&&◌}
use mathlib.Core.Option.{Option, none, some}
use Prim.Native.Nat.{ℕ, suc, ◌<◌}
use native.Mathlib.Omega.{arith}
use lib.ListN.{length}
use lib.Dec.{T}
use mir.Facts.{and_yes}
use Rattle.base.specs.Options.{is_some, or_else}
use Rattle.model.specs.Tables.{Row, Job, Database}
use Rattle.model.specs.WellFormed.{structured, limited, well_formed}
use Rattle.model.specs.Verdict.{tables_differ, first_kind, kind_of, extract_rows, query_rows, Apart, Evidence, HandedOut}
use Rattle.model.specs.Pair.{empty_database}
use Rattle.model.proofs.Scope.{rows_cong}
use Rattle.model.proofs.Theorems.{evidence_1, evidence_2, evidence_3, evidence_4}
use Rattle.zone.specs.Zone.{Zone}
use Rattle.verdict.specs.Found.{found1, found2, found3, found4, found_kind, finding}
use Rattle.databases.proofs.Rows.{first_by, second_by}
use Rattle.verdict.proofs.Rows.{least_found, first_handed, second_handed}
use Rattle.verdict.proofs.Decided.{kind_2_found, kind_found}
use Rattle.verdict.proofs.Shown.{kind_1_row, kind_2_row, both_within, kind_3_row, kind_4_row}

-- ---- what is handed out is that of declared tables
module _ (j : Job) {d f d' f' : Database} (p : (t : ℕ) → t < length j.tables → d t ≡ d' t) (q : (t : ℕ) → t < length j.tables → f t ≡ f' t) where
  apart_as : Apart j d' f' → Apart j d f
  unfolding extract_rows query_rows
  apart_as a = record {
    first_within = λ t h r m. a.first_within t h r (rw (p t h) at m);
    second_within = λ t h r m. a.second_within t h r (rw (q t h) at m);
    same_extract = rw (rows_cong j.tables j.extract d d' (λ t h _. p t h), rows_cong j.tables j.extract f f' (λ t h _. q t h)) a.same_extract;
    other_query = rw (rows_cong j.tables j.query d d' (λ t h _. p t h), rows_cong j.tables j.query f f' (λ t h _. q t h)) a.other_query;
  }

  pub handed_as : HandedOut j d' f' → HandedOut j d f
  handed_as out = record {
    with_0 = λ e t h. (p t h ∙ (out.with_0 e t h).0, q t h ∙ (out.with_0 e t h).1);
    with_others = λ e. record {
      apart = apart_as (out.with_others e).apart;
      first_small = λ t h. rw (p t h) ((out.with_others e).first_small t h);
      second_small = λ t h. rw (q t h) ((out.with_others e).second_small t h);
    };
  }

module _ (j : Job) (w : T (well_formed j)) where
  s : T (structured j)
  unfolding well_formed
  s = (and_yes (structured j) (limited j) w).0

  -- ---- with kind 0, and with another
  nothing : kind_of j ≡ 0 → HandedOut j empty_database empty_database
  nothing e = record { with_0 = λ _ t lt. (refl, refl); with_others = λ n. absurd (n e) }

  evident : (k : ℕ) {d f : Database} → Evidence j d f → kind_of j ≡ suc k → HandedOut j d f
  evident k v e = record { with_0 = λ z. absurd (omega (arith, sym z ∙ e)); with_others = λ n. v }

  -- ---- by what the searches find
  abbrev Right : ℕ → Row → Type 0
  Right k r = kind_of j ≡ k → HandedOut j (first_by j k r) (second_by j k r)

  later : (a b c : Option Zone) → found2 j ≡ a → found3 j ≡ b → found4 j ≡ c
      → Right (first_kind false (is_some a) (is_some b) (is_some c)) (least_found (or_else a (or_else b c)))
  unfolding first_by second_by
  later (some y) b c e f g = let (v, h) = kind_2_row j w y e in evident 1 (evidence_2 j s _ v h)
  later none (some y) c e f g =
      let (v, h) = kind_3_row j w y (kind_2_found j w ∙ ap is_some e) f in
      let (p, q) = both_within j w y v in
      evident 2 (evidence_3 j s _ _ p q h)
  later none none (some y) e f g =
      let (v, h) = kind_4_row j w y (kind_2_found j w ∙ ap is_some e) g in
      let (p, q) = both_within j w y v in
      evident 3 (evidence_4 j s _ _ p q h)
  later none none none e f g = nothing

  by_finding : (d : Bool) (o : Option Zone) → tables_differ j ≡ d → found1 j ≡ o
      → Right (first_kind (d && is_some o) (is_some (found2 j)) (is_some (found3 j)) (is_some (found4 j)))
      (least_found (or_else (cond d o none) (or_else (found2 j) (or_else (found3 j) (found4 j)))))
  unfolding first_by second_by
  by_finding true (some y) d e = let (v, h) = kind_1_row j w y e in evident 0 (evidence_1 j s (rw d tt) _ v h)
  by_finding true none d e = later (found2 j) (found3 j) (found4 j) refl refl refl
  by_finding false o d e = later (found2 j) (found3 j) (found4 j) refl refl refl

  pub handed : HandedOut j (first_handed j) (second_handed j)
  unfolding first_handed second_handed found_kind finding
  handed = by_finding (tables_differ j) (found1 j) refl refl (kind_found j w)
