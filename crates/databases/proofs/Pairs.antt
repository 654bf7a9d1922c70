-- The two databases of a kind and the row that shows it are those that these stand for, and they are tidy. Assumes nothing.
use mathlib.Core.Path.{◌≡◌, refl, sym, ap, ◌∙◌}
use mathlib.Core.Bool.{cond}
use mathlib.Core.List.{List}
use Prim.Native.Nat.{ℕ, zero, suc, ◌<◌, ◌≤◌}
use native.Mathlib.Omega.{arith}
use lib.ListN.{length, take, length-take}
use lib.Seq.{length-take-le, take_all}
use lib.IntN.{ℤ, pos}
use lib.Dec.{T, leb}
use borrow.Author.Tests.{ne_eqb, lt-leb}
use Rattle.base.proofs.Places.{tabulate_length}
use Rattle.base.specs.Lists.{at, tabulate}
use Rattle.base.proofs.Arrays.{take_padded, padded_length, entries_length}
use Rattle.model.proofs.Formed.{Formed, well_formed_lem}
use Rattle.model.specs.Tables as model
use Rattle.model.specs.Tables.{Row, value}
use Rattle.model.specs.WellFormed.{well_formed}
use Rattle.model.specs.Verdict.{columns}
use Rattle.model.specs.Pair.{row_database, reduced_database}
use Rattle.job.specs.declared.Columns.{Columns}
use Rattle.job.specs.declared.Expression.{Expression}
use Rattle.job.specs.declared.Job.{Job}
use Rattle.job.specs.Meaning.{job_of, problem, record_of}
use Rattle.job.proofs.Declared.{width_is}
use Rattle.twins.specs.declared.TwinRows.{TwinRows}
use Rattle.twins.specs.Records.{twins_record}
use Rattle.twins.proofs.Twins.{twins_length}
use Rattle.twins.proofs.Twinned.{record_columns, first_is, second_is}
use Rattle.databases.specs.declared.Database.{Database}
use Rattle.databases.specs.declared.Pair.{Pair}
use Rattle.databases.specs.Databases.{no_database, database_of, TidyDatabase, row_record, reduced_record, first_in, second_in}
use Rattle.databases.specs.Databases.{one_pair, two_pair, pair_record}
use Rattle.databases.proofs.Rows.{one_row, other_row, first_by, second_by}
use Rattle.databases.proofs.Databases.{row_is, row_tidy, reduced_is, reduced_tidy, none_is, none_tidy}
use Rattle.databases.proofs.Pairing.{pair_two}

-- how many columns the row of a kind has
abbrev pub shown_columns : Columns → TwinRows → ℕ → ℕ
shown_columns k rows kind = cond (leb kind 2) k.width rows.columns

-- a tidy pair that stands for two databases
pub record Shows (k : Columns) (extract query : Expression) (p : Pair) (d f : model.Database) : Type 0 where
  pub first : (t : ℕ) → database_of (job_of k extract query) p.first t ≡ d t
  pub second : (t : ℕ) → database_of (job_of k extract query) p.second t ≡ f t
  pub first_tidy : TidyDatabase k p.first
  pub second_tidy : TidyDatabase k p.second

-- with kind 0 there is no row in either
pub pair_none : (k : Columns) (extract query : Expression) (twin : List ℕ) (kind : ℕ) (row : Row) → kind ≡ 0
    → ((pair_record k extract query twin kind row).first ≡ no_database) × ((pair_record k extract query twin kind row).second ≡ no_database)
unfolding pair_record
pair_none k extract query twin kind row e = rw e (refl, refl)

-- ---- of columns and expressions that are those of the record of a well-formed job
module _ (k : Columns) (extract query : Expression) (laid : record_of (job_of k extract query) ≡ problem k extract query)
    (w : T (well_formed (job_of k extract query))) where
  abbrev r : Job
  r = problem k extract query

  abbrev j : model.Job
  j = job_of k extract query

  abbrev n : ℕ
  n = length (columns j)

  abbrev rows : TwinRows
  rows = twins_record (columns j) j.extract.outputs

  few : k.width ≤ 16
  few = omega (arith, width_is r laid, (well_formed_lem j w).limits.few_columns)

  formed : Formed j.tables j.query
  formed = (well_formed_lem j w).formed.query

  -- ---- a row that lies in an array
  module _ (a : List ℤ) where
    made_tidy : TidyDatabase k (row_record k query a)
    made_tidy = row_tidy k extract query laid few formed a

    made_shown : length a ≡ 16 → {x : Row} → take n a ≡ x → (t : ℕ) → database_of j (row_record k query a) t ≡ row_database j x t
    made_shown full e t = row_is k extract query laid few formed a full t ∙ ap (λ (x : Row). row_database j x t) e

  module _ (row : Row) (long : n ≤ length row) where
    abbrev one : List ℤ
    one = first_in k.width row

    abbrev other : List ℤ
    other = second_in k.width rows.twin row

    one_full : length one ≡ 16
    one_full = padded_length 16 (pos 0) (take k.width row) (omega (arith, length-take k.width row, few))

    one_back : take n one ≡ take n row
    one_back =
        ap (λ (m : ℕ). take n (first_in m row)) (width_is r laid)
        ∙ take_padded 16 (pos 0) (take n row) n (sym (length-take-le n row long))

    other_full : length other ≡ 16
    other_full = entries_length 16 (pos 0) k.width (λ c. value row (at rows.twin c)) few

    other_back : take n other ≡ other_row j row
    other_back =
        let f : ℕ → ℤ = λ c. value row (at rows.twin c) in
        ap (λ (m : ℕ). take n (second_in m rows.twin row)) (width_is r laid)
        ∙ take_padded 16 (pos 0) (tabulate n f) n (sym (tabulate_length n f))
        ∙ second_is (columns j) j.extract.outputs row

    pub two_shown :
        Shows k extract query (two_pair k query rows.twin row) (row_database j (one_row j row)) (row_database j (other_row j row))
    unfolding two_pair
    two_shown = record {
      first = made_shown one one_full (one_back ∙ first_is (columns j) j.extract.outputs row);
      second = made_shown other other_full other_back;
      first_tidy = made_tidy one;
      second_tidy = made_tidy other;
    }

    module _ (all : length row ≡ n) where
      one_row_lem : take n one ≡ row
      one_row_lem = one_back ∙ take_all n row (omega arith)

      -- with whatever is the second
      one_shown : (b : Database) (f : model.Database) → ((t : ℕ) → database_of j b t ≡ f t) → TidyDatabase k b
          → Shows k extract query (record { first = row_record k query one; second = b }) (row_database j row) f
      one_shown b f shows tidy =
          record { first = made_shown one one_full one_row_lem; second = shows; first_tidy = made_tidy one; second_tidy = tidy }

      reduced_shown : (t : ℕ) → database_of j (reduced_record k extract query one) t ≡ reduced_database j row t
      reduced_shown t = reduced_is k extract query laid few formed one one_full t ∙ ap (λ (x : Row). reduced_database j x t) one_row_lem

  -- ---- kind by kind
  abbrev Right : ℕ → Type 0
  Right kind = (row : Row) → (0 < kind → length row ≡ shown_columns k rows kind)
      → Shows k extract query (pair_record k extract query rows.twin kind row) (first_by j kind row) (second_by j kind row)

  kind_0 : Right 0
  unfolding pair_record first_by second_by
  kind_0 row long = record { first = none_is j; second = none_is j; first_tidy = none_tidy k; second_tidy = none_tidy k }

  kind_1 : Right 1
  unfolding pair_record one_pair first_by second_by
  kind_1 row long =
      let all : length row ≡ n = long (omega arith) ∙ width_is r laid in
      let enough : n ≤ length row = omega arith in
      one_shown row enough all _ _ (reduced_shown row enough all) (reduced_tidy k extract query laid few formed (one row enough))

  kind_2 : Right 2
  unfolding pair_record one_pair first_by second_by
  kind_2 row long =
      let all : length row ≡ n = long (omega arith) ∙ width_is r laid in
      one_shown row (omega arith) all _ _ (none_is j) (none_tidy k)

  kind_more : (kind : ℕ) → 2 < kind → Right kind
  unfolding first_by second_by
  kind_more kind h row long =
      let all = rw (lt-leb kind 2 h) at (long (omega arith)) ∙ record_columns (columns j) j.extract.outputs in
      let enough : n ≤ length row = omega (arith, all, twins_length n j.extract.outputs (columns j) refl) in
      rw (
        ← pair_two k extract query rows.twin kind (omega arith) row h refl,
        ne_eqb kind 0 (λ e. omega arith),
        ne_eqb kind 1 (λ e. omega arith),
        lt-leb kind 2 h,
      ) (two_shown row enough)

  pub pair_shows : (kind : ℕ) → Right kind
  pair_shows zero = kind_0
  pair_shows (suc zero) = kind_1
  pair_shows (suc (suc zero)) = kind_2
  pair_shows (suc (suc (suc kind))) = kind_more (suc (suc (suc kind))) (omega arith)
