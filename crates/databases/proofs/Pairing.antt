-- The least row is read with zeros behind it, and two databases are made of it as the kind says. Assumes nothing.
use mathlib.Core.Path.{◌≡◌, refl, sym, ap, ◌∙◌}
use mathlib.Core.Logic.{◌⊎◌, inl, inr}
use mathlib.Core.List.{List, ◌++◌}
use Prim.Native.Nat.{ℕ, ◌+◌, ◌-◌, ◌<◌, ◌≤◌}
use native.Mathlib.Omega.{arith}
use lib.ListN.{length, take, drop, replicate, length-map, length-drop, get_or-eq_default}
use lib.Seq.{take-append-le}
use lib.IntN.{ℤ, pos}
use borrow.Author.Tests.{le-leb, lt-leb, ne_eqb}
use Rattle.base.proofs.Places.{tabulate_length, tabulate_cong}
use Rattle.base.specs.Lists.{at, tabulate}
use Rattle.base.specs.Arrays.{padded}
use Rattle.base.proofs.Arrays.{get_or_padded, padded_past, drop_replicate}
use Rattle.base.proofs.Tests.{by_less}
use Rattle.words.specs.Bias.{bias, unbiased}
use Rattle.model.specs.Tables.{Row, value}
use Rattle.model.specs.declared.Kind.{Kind}
use Rattle.model.specs.declared.Kind.TheVariants.{Computable, TablesDiffer, RowNotKept, ConditionHidden, OutputHidden}
use Rattle.model.specs.Answers.{number_of_kind}
use Rattle.zone.specs.Zone.{Zone, level, columns_of, least_of}
use Rattle.zone.specs.Matrix.{entry}
use Rattle.job.specs.declared.Columns.{Columns}
use Rattle.job.specs.declared.Expression.{Expression}
use Rattle.databases.specs.declared.Database.{Database}
use Rattle.databases.specs.declared.Pair.{Pair}
use Rattle.databases.specs.Databases.{no_database, row_record, reduced_record, least_in, first_in, second_in}
use Rattle.databases.specs.Databases.{one_pair, two_pair, pair_record}

-- ---- the least row
module _ (z : Zone) where
  pub least_size : length (least_in z) ≡ columns_of z
  unfolding least_of
  least_size =
      length-map (drop 1 (least_of z)) (unbiased bias)
      ∙ omega (arith, length-drop 1 (least_of z), tabulate_length (length z) (λ i. bias + level - entry z 0 i))

  pub least_read : {n : ℕ} {row : List ℤ} → n ≡ length z → row ≡ least_in z
      → row ++ drop (n - 1) (replicate 32 (pos 0)) ≡ padded 32 (pos 0) (least_in z)
  least_read {n} size e =
      ap (λ (xs : List ℤ). xs ++ drop (n - 1) (replicate 32 (pos 0))) e
      ∙ ap (λ (zs : List ℤ). least_in z ++ zs)
      (drop_replicate (n - 1) 32 (pos 0) ∙ ap (λ (k : ℕ). replicate (32 - k) (pos 0)) (omega (arith, size, least_size)))

-- ---- the rows in it
padded_value : (n : ℕ) (row : Row) (k : ℕ) → value (padded n (pos 0) row) k ≡ value row k
padded_value n row k =
    by_less k (length row) (get_or_padded n (pos 0) row k (pos 0)) (λ h.
    padded_past n (pos 0) row k h ∙ sym (get_or-eq_default row (pos 0) h))

module _ (n : ℕ) (z : Zone) {least : List ℤ} (e : least ≡ padded 32 (pos 0) (least_in z)) where
  abbrev row : Row
  row = least_in z

  pub first_read : n ≤ columns_of z → {one : List ℤ} → one ≡ padded 16 (pos 0) (take n least) → one ≡ first_in n (least_in z)
  first_read h f =
      f ∙ ap (λ (xs : List ℤ). padded 16 (pos 0) (take n xs)) e
      ∙ ap (padded 16 (pos 0)) (take-append-le n row (replicate (32 - length row) (pos 0)) (omega (arith, least_size z, h)))

  pub second_read : (twin : List ℕ) → {other : List ℤ}
      → other ≡ padded 16 (pos 0) (tabulate n (λ c. value least (at twin c))) → other ≡ second_in n twin (least_in z)
  second_read twin f =
      f ∙ ap (λ (xs : List ℤ). padded 16 (pos 0) (tabulate n (λ c. value xs (at twin c)))) e
      ∙ ap (padded 16 (pos 0)) (tabulate_cong n (λ c. value (padded 32 (pos 0) row) (at twin c)) (λ c. value row (at twin c)) (λ c _.
      padded_value 32 row (at twin c)))

-- ---- the kinds that one row shows, and those that two show
pub one_kinds : {kind : Kind} → (kind ≡ TablesDiffer) ⊎ (kind ≡ RowNotKept) → (0 < number_of_kind kind) × (number_of_kind kind ≤ 2)
one_kinds (inl e) = rw e (omega arith, omega arith)
one_kinds (inr e) = rw e (omega arith, omega arith)

pub two_kinds : {kind : Kind} → (kind ≡ ConditionHidden) ⊎ (kind ≡ OutputHidden) → 2 < number_of_kind kind
two_kinds (inl e) = rw e (omega arith)
two_kinds (inr e) = rw e (omega arith)

-- ---- the databases
abbrev pair : Database → Database → Pair
pair a b = record { first = a; second = b }

module _ (k : Columns) (extract query : Expression) (row : Row) {a b : Database} (e : a ≡ row_record k query (first_in k.width row)) where
  pub one_reduced : (kind : ℕ) → kind ≡ 1
      → b ≡ reduced_record k extract query (first_in k.width row) → pair a b ≡ one_pair k extract query kind row
  unfolding one_pair
  one_reduced kind is f = rw (is, e, f)

  pub one_none : (kind : Kind) → ¬ (kind ≡ TablesDiffer) → b ≡ no_database → pair a b ≡ one_pair k extract query (number_of_kind kind) row
  unfolding one_pair
  one_none Computable isn't f = rw (e, f)
  one_none TablesDiffer isn't f = absurd (isn't refl)
  one_none RowNotKept isn't f = rw (e, f)
  one_none ConditionHidden isn't f = rw (e, f)
  one_none OutputHidden isn't f = rw (e, f)

pub two_made : (k : Columns) (query : Expression) (row : Row) (twin : List ℕ) {a b : Database}
    → a ≡ row_record k query (first_in k.width row) → b ≡ row_record k query (second_in k.width twin row)
    → pair a b ≡ two_pair k query twin row
unfolding two_pair
two_made k query row twin e f = rw (e, f)

pub none_made : (k : Columns) (extract query : Expression) (twin : List ℕ) (kind : ℕ) (row : Row) → kind ≡ 0
    → {d f : Database} → d ≡ no_database → f ≡ no_database → pair d f ≡ pair_record k extract query twin kind row
unfolding pair_record
none_made k extract query twin kind row is d-is f-is = rw (is, d-is, f-is)

-- of the kinds that have a row
module _ (k : Columns) (extract query : Expression) (twin : List ℕ) (kind : ℕ) (some : 0 < kind) (row : Row) where
  abbrev shown : Pair
  shown = pair_record k extract query twin kind row

  pub pair_one : kind ≤ 2 → {p : Pair} → p ≡ one_pair k extract query kind row → p ≡ shown
  unfolding pair_record
  pair_one h e = rw (ne_eqb kind 0 (λ e. omega arith), le-leb kind 2 h) e

  pub pair_two : 2 < kind → {p : Pair} → p ≡ two_pair k query twin row → p ≡ shown
  unfolding pair_record
  pair_two h e = rw (ne_eqb kind 0 (λ e. omega arith), lt-leb kind 2 h) e
