-- The listing, case by case, and what its 2 means. Assumes nothing.
use mathlib.Core.Path.{◌≡◌, refl}
use mathlib.Core.Logic.{◌↔◌}
use mathlib.Core.Bool.{Bool, true, false, not, cond, ◌&&◌}
use Prim.Native.Nat.{ℕ, ◌≤◌}
use mir.Facts.{and_yes, yes_and}
use lib.Dec.{T, eqb, eqb→eq, eqb_refl, leb, leb→le, T_not, not_T}
use Rattle.base.specs.Lists.{any_of}
use Rattle.base.proofs.Tests.{stable}
use Rattle.words.specs.Compare.{eq_z}
use Rattle.words.proofs.Order.{eq_z_is, eq_z_refl}
use Rattle.model.specs.Tables.{Row, Job, value, within, uses, table_of}
use Rattle.model.specs.Rows.{two_rows}
use Rattle.model.specs.Verdict.{columns, fixed, listing_of, unfixing, meets_extract, stored}
use Rattle.model.proofs.Rows.{two_has, has_two}
use Rattle.model.proofs.Verdict.{Alike, unfixing_has, has_unfixing}

-- rows that the extract can't tell apart have the same value in column c
abbrev pub Fixed : Job → ℕ → Type 0
Fixed j c = (r s : Row) → T (within (columns j) r) → T (within (columns j) s) → T (meets_extract j r) → T (meets_extract j s)
    → stored j r ≡ stored j s → value r c ≡ value s c

-- ---- the first of three that fits
listed : Bool → Bool → Bool → ℕ
listed u s f = cond (not u) 0 (cond s 1 (cond f 2 3))

cases : (u s f : Bool)
    → (eqb (listed u s f) 0 ≡ not u) × (eqb (listed u s f) 1 ≡ (u && s)) × (eqb (listed u s f) 2 ≡ (u && not s && f)) × (leb (listed u s f) 3 ≡ true)
unfolding listed
cases true true f = (refl, refl, refl, refl)
cases true false true = (refl, refl, refl, refl)
cases true false false = (refl, refl, refl, refl)
cases false s f = (refl, refl, refl, refl)

is_number : {n k : ℕ} {b : Bool} → eqb n k ≡ b → n ≡ k ↔ T b
is_number {n} {k} {b} e = (λ q. rw (← e, q) (eqb_refl k), λ t. eqb→eq n k (rw e t))

module _ (j : Job) (c : ℕ) where
  pub fixed_is : T (fixed j c) ↔ Fixed j c
  unfolding fixed
  fixed_is = (
    λ t r s v w er es a. eq_z_is (value r c) (value s c) (stable (eq_z (value r c) (value s c)) (λ n.
        let alike : Alike j r s = record { first_extract = er; second_extract = es; agreed = a } in
        T_not (two_rows (columns j) (unfixing j c)) t (has_two (columns j) (unfixing j c) r s v w (has_unfixing j r s c alike n)))),
    λ f. not_T (two_rows (columns j) (unfixing j c)) (λ t.
        let (r, s, v, w, x) = two_has (columns j) (unfixing j c) t in
        let (k, n) = unfixing_has j r s c x in
        T_not (eq_z (value r c) (value s c)) n (rw (f r s v w k.first_extract k.second_extract k.agreed) (eq_z_refl (value s c)))),
  )

  abbrev used : Bool
  used = uses j.extract (table_of j.tables c)

  abbrev is_stored_lem : Bool
  is_stored_lem = any_of (eqb c) j.extract.outputs

  pub listing_0 : listing_of j c ≡ 0 ↔ T (not used)
  unfolding listing_of listed
  listing_0 = is_number (cases used is_stored_lem (fixed j c)).0

  pub listing_1 : listing_of j c ≡ 1 ↔ T used × T is_stored_lem
  unfolding listing_of listed
  listing_1 =
      let i = is_number (cases used is_stored_lem (fixed j c)).1 in
      (λ e. and_yes used is_stored_lem (i.0 e), λ (u, s). i.1 (yes_and used is_stored_lem u s))

  pub listing_2 : listing_of j c ≡ 2 ↔ T used × T (not is_stored_lem) × Fixed j c
  unfolding listing_of listed
  listing_2 =
      let i = is_number (cases used is_stored_lem (fixed j c)).2 in (
        λ e.
            let (h, f) = and_yes (used && not is_stored_lem) (fixed j c) (i.0 e) in
            let (u, s) = and_yes used (not is_stored_lem) h in
            (u, s, fixed_is.0 f),
        λ (u, s, f). i.1 (yes_and (used && not is_stored_lem) (fixed j c) (yes_and used (not is_stored_lem) u s) (fixed_is.1 f)),
      )

  pub listing_most : listing_of j c ≤ 3
  unfolding listing_of listed
  listing_most = leb→le (listing_of j c) 3 (rw (cases used is_stored_lem (fixed j c)).3 tt)
