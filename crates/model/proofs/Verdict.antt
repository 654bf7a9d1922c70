-- The verdict taken apart: what each kind says of rows, which kinds apply, and what follows for the used tables. Assumes nothing.
use mathlib.Core.Path.{◌≡◌, refl}
use mathlib.Core.Bool.{Bool, true, false, not, ◌&&◌}
use Prim.Native.Nat.{ℕ, zero}
use native.Mathlib.Omega.{arith}
use mir.Facts.{and_yes, yes_and}
use lib.Dec.{T, T_not, not_T}
use Rattle.base.proofs.Tests.{same_test, or_left, or_right}
use Rattle.words.specs.Compare.{eq_z}
use Rattle.model.specs.Tables.{Row, Job, value, within, uses}
use Rattle.model.specs.Rows.{some_row, same_row}
use Rattle.model.specs.Verdict.{uses_other, columns, tables_differ, witness2, witness3, witness4, kind1, kind2, kind3, kind4, kind_of, unfixing, answer, meets_extract, stored, meets_query, first_kind, alike_in_extract}
use Rattle.model.proofs.Rows.{some_has, has_some, two_has, same_row_is, is_same_row}
use Rattle.model.proofs.Scope.{none_other}

-- ---- what the kinds say of rows, part by part
module _ (j : Job) where
  pub record Alike (r s : Row) : Type 0 where
    pub first_extract : T (meets_extract j r)
    pub second_extract : T (meets_extract j s)
    pub agreed : stored j r ≡ stored j s

  module _ (r s : Row) where
    alike_has : T (alike_in_extract j r s) → Alike r s
    unfolding alike_in_extract
    alike_has x =
        let (y, a) = and_yes (meets_extract j r && meets_extract j s) (same_row (stored j r) (stored j s)) x in
        let (er, es) = and_yes (meets_extract j r) (meets_extract j s) y in
        record { first_extract = er; second_extract = es; agreed = same_row_is (stored j r) (stored j s) a }

    has_alike : Alike r s → T (alike_in_extract j r s)
    unfolding alike_in_extract
    has_alike a = let er = a.first_extract in let es = a.second_extract in let e = is_same_row a.agreed in search yes_and

    pub witness3_has : T (witness3 j r s) → Alike r s × T (meets_query j r) × T (not (meets_query j s))
    unfolding witness3
    witness3_has x =
        let (y, n) = and_yes (alike_in_extract j r s && meets_query j r) (not (meets_query j s)) x in
        let (a, q) = and_yes (alike_in_extract j r s) (meets_query j r) y in
        (alike_has a, q, n)

    pub has_witness3 : Alike r s → T (meets_query j r) → T (not (meets_query j s)) → T (witness3 j r s)
    unfolding witness3
    has_witness3 a q n = let x = has_alike a in search yes_and

    pub witness4_has : T (witness4 j r s) → Alike r s × T (meets_query j r) × T (meets_query j s) × T (not (same_row (answer j r) (answer j s)))
    unfolding witness4
    witness4_has x =
        let (y, n) = and_yes (alike_in_extract j r s && meets_query j r && meets_query j s) (not (same_row (answer j r) (answer j s))) x in
        let (z, qs) = and_yes (alike_in_extract j r s && meets_query j r) (meets_query j s) y in
        let (a, qr) = and_yes (alike_in_extract j r s) (meets_query j r) z in
        (alike_has a, qr, qs, n)

    pub has_witness4 : Alike r s → T (meets_query j r) → T (meets_query j s) → T (not (same_row (answer j r) (answer j s))) → T (witness4 j r s)
    unfolding witness4
    has_witness4 a qr qs n = let x = has_alike a in search yes_and

    pub unfixing_has : (c : ℕ) → T (unfixing j c r s) → Alike r s × T (not (eq_z (value r c) (value s c)))
    unfolding unfixing
    unfixing_has c x = let (a, n) = and_yes (alike_in_extract j r s) (not (eq_z (value r c) (value s c))) x in (alike_has a, n)

    pub has_unfixing : (c : ℕ) → Alike r s → T (not (eq_z (value r c) (value s c))) → T (unfixing j c r s)
    unfolding unfixing
    has_unfixing c a n = let x = has_alike a in search yes_and

-- ---- the first of four that applies
pub record NoKind (a b c d : Bool) : Type 0 where
  pub not1 : T (not a)
  pub not2 : T (not b)
  pub not3 : T (not c)
  pub not4 : T (not d)

first_0 : (a b c d : Bool) → first_kind a b c d ≡ zero → NoKind a b c d
first_0 true b c d e = absurd (omega arith)
first_0 false true c d e = absurd (omega arith)
first_0 false false true d e = absurd (omega arith)
first_0 false false false true e = absurd (omega arith)
first_0 false false false false e = record { not1 = tt; not2 = tt; not3 = tt; not4 = tt }

no_first : (a b c d : Bool) → NoKind a b c d → first_kind a b c d ≡ zero
no_first true b c d n = absurd n.not1
no_first false true c d n = absurd n.not2
no_first false false true d n = absurd n.not3
no_first false false false true n = absurd n.not4
no_first false false false false n = refl

-- something follows from each that applies as the first
first_any : {A : Type 0} (a b c d : Bool) → (T a → A) → (T b → A) → (T c → A) → (T d → A) → ¬ (first_kind a b c d ≡ zero) → A
first_any true b c d f₁ f₂ f₃ f₄ n = f₁ tt
first_any false true c d f₁ f₂ f₃ f₄ n = f₂ tt
first_any false false true d f₁ f₂ f₃ f₄ n = f₃ tt
first_any false false false true f₁ f₂ f₃ f₄ n = f₄ tt
first_any false false false false f₁ f₂ f₃ f₄ n = absurd (n refl)

-- ---- the kind of a job
module _ (j : Job) where
  pub kind_0 : kind_of j ≡ 0 → NoKind (kind1 j) (kind2 j) (kind3 j) (kind4 j)
  unfolding kind_of
  kind_0 e = first_0 (kind1 j) (kind2 j) (kind3 j) (kind4 j) e

  pub kind_any : {A : Type 0} → (T (kind1 j) → A) → (T (kind2 j) → A) → (T (kind3 j) → A) → (T (kind4 j) → A) → ¬ (kind_of j ≡ 0) → A
  unfolding kind_of
  kind_any f₁ f₂ f₃ f₄ n = first_any (kind1 j) (kind2 j) (kind3 j) (kind4 j) f₁ f₂ f₃ f₄ n

  -- each kind has a row that meets the query's condition
  pub never_met : T (not (some_row (columns j) (meets_query j))) → kind_of j ≡ 0
  unfolding kind_of kind1 kind2 kind3 kind4 witness2
  never_met n = no_first (kind1 j) (kind2 j) (kind3 j) (kind4 j) (record {
    not1 = not_T (kind1 j) (λ k. T_not met n (and_yes (tables_differ j) met k).1);
    not2 = not_T (kind2 j) (λ k. let (r, w, x) = some_has (columns j) (witness2 j) k in none_meets r w (and_yes (meets_query j r) (not (meets_extract j r)) x).0);
    not3 = not_T (kind3 j) (λ k. let (r, s, v, w, x) = two_has (columns j) (witness3 j) k in none_meets r v (witness3_has j r s x).1);
    not4 = not_T (kind4 j) (λ k. let (r, s, v, w, x) = two_has (columns j) (witness4 j) k in none_meets r v (witness4_has j r s x).1);
  })
    where
      met : Bool
      met = some_row (columns j) (meets_query j)

      none_meets : (r : Row) → T (within (columns j) r) → T (meets_query j r) → ⊥
      none_meets r w q = T_not met n (has_some (columns j) (meets_query j) r w q)

  -- where kind 1 doesn't apply, a row that meets the query's condition shows that the used tables are the same
  pub tables_same : T (not (kind1 j)) → (r : Row) → T (within (columns j) r) → T (meets_query j r) → T (not (tables_differ j))
  unfolding kind1
  tables_same n r w q = not_T (tables_differ j) (λ x.
      T_not (kind1 j) n (yes_and (tables_differ j) (some_row (columns j) (meets_query j)) x (has_some (columns j) (meets_query j) r w q)))

  pub same_uses : T (not (tables_differ j)) → (t : ℕ) → uses j.extract t ≡ uses j.query t
  unfolding tables_differ
  same_uses n t =
      let e = uses_other j.extract j.query in
      let f = uses_other j.query j.extract in
      same_test (uses j.extract t) (uses j.query t)
      (none_other j.extract j.query (not_T e (λ x. T_not (tables_differ j) n (or_left e f x))) t)
      (none_other j.query j.extract (not_T f (λ x. T_not (tables_differ j) n (or_right e f x))) t)
