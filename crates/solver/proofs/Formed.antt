-- The solver takes a well-formed job's columns and conditions: they fit, and so do their sizes. Assumes nothing.
use mathlib.Core.Logic.{◌⊎◌, inl, inr}
use mathlib.Core.Bool.{Bool, not}
use mathlib.Core.List.Memᴰ
use mathlib.Core.List.{List, [], ◌∷◌}
use Prim.Native.Nat.{ℕ, ◌<◌, ◌≤◌}
use lib.ListN.{length}
use lib.IntN.{ℤ, pos, negsuc}
use lib.Signed.{le_z}
use lib.Dec.{T, ltb, ltb→lt, lt→ltb}
use mir.Facts.{and_yes, yes_and}
use Rattle.model.proofs.Formed.{Formed, Limited, clause_short, near, well_formed_lem}
use Rattle.base.specs.Lists.{◌∈◌, all_of, is_empty}
use Rattle.base.proofs.Lists.{all_has, has_all}
use Rattle.words.specs.Bias.{bias}
use Rattle.words.proofs.Order.{le_z_trans}
use Rattle.model.specs.Tables.{Table, Against, column, number, Clause, Expression, Job, columns_of, table_of, uses}
use Rattle.model.specs.declared.Bounds.{Bounds}
use Rattle.model.specs.WellFormed.{table_formed, in_scope, against_in_scope, comparison_formed, in_range, against_limited, well_formed}
use Rattle.model.specs.Verdict.{columns}
use Rattle.solver.specs.Solver.{fits, bounds_fit, against_fits, comparison_fits}

-- ---- a column
range_fits : (v : ℤ) → T (in_range v) → T (fits v)
range_fits v h =
    let (low, high) = and_yes (le_z (negsuc 999999) v) (le_z v (pos 1000000)) h in
    yes_and (le_z (negsuc 999999999999999) v) (le_z v (pos bias))
    (le_z_trans (negsuc 999999999999999) (negsuc 999999) v tt low) (le_z_trans v (pos 1000000) (pos bias) high tt)

abbrev ordered : Bounds → Bool
ordered b = le_z b.lo b.hi

columns_ordered : (ts : List Table) → T (all_of table_formed ts) → {b : Bounds} → b ∈ columns_of ts → T (ordered b)
columns_ordered [] h m = absurd (Memᴰ.not-nil m)
columns_ordered (t ∷ ts) h {b} m =
    let (front, rest) = and_yes (table_formed t) (all_of table_formed ts) h in
    part front (columns_ordered ts rest) (Memᴰ.append_cases t m)
  where
    part : T (table_formed t) → (b ∈ columns_of ts → T (ordered b)) → (b ∈ t) ⊎ (b ∈ columns_of ts) → T (ordered b)
    part front below (inl i) = all_has ordered i (and_yes (not (is_empty t)) (all_of ordered t) front).1
    part front below (inr i) = below i

columns_fit : (ts : List Table) → T (all_of table_formed ts) → T (all_of near (columns_of ts)) → T (all_of bounds_fit (columns_of ts))
columns_fit ts formed range = has_all bounds_fit (columns_of ts) (λ b m.
    let (low, high) = and_yes (in_range b.lo) (in_range b.hi) (all_has near m range) in
    let x = range_fits b.lo low in
    let y = range_fits b.hi high in
    let z = columns_ordered ts formed m in
    search yes_and)

-- ---- an expression

pub record Taken (ts : List Table) (e : Expression) : Type 0 where
  pub formed : Formed ts e
  pub limits : Limited e.condition
  pub fit : T (all_of (all_of (comparison_fits (length (columns_of ts)))) e.condition)

module _ (ts : List Table) (e : Expression) where
  abbrev n : ℕ
  n = length (columns_of ts)

  pub scope_declared : (c : ℕ) → T (in_scope ts e c) → c < n
  scope_declared c h = ltb→lt c n (and_yes (ltb c n) (uses e (table_of ts c)) h).0

  against_fits_lem : (a : Against) → T (against_in_scope ts e a) → T (against_limited a) → T (against_fits n a)
  against_fits_lem (column c) h l = lt→ltb c n (scope_declared c h)
  against_fits_lem (number v) h l = range_fits v l

  expression_taken : Formed ts e → Limited e.condition → Taken ts e
  expression_taken f l = record {
    formed = f;
    limits = l;
    fit = has_all (all_of (comparison_fits n)) e.condition (λ c m.
        let formed = all_has (all_of (comparison_formed ts e)) m f.condition in
        let numbers = all_has (all_of (λ k. against_limited k.right)) m l.numbers in
        has_all (comparison_fits n) c (λ k i.
        let (h, a) = and_yes (in_scope ts e k.left) (against_in_scope ts e k.right) (all_has (comparison_formed ts e) i formed) in
        yes_and (ltb k.left n) (against_fits n k.right) (lt→ltb k.left n (scope_declared k.left h))
        (against_fits_lem k.right a (all_has (λ k. against_limited k.right) i numbers))));
  }

module _ {ts : List Table} {e : Expression} (taken : Taken ts e) where
  pub few_clauses : length e.condition ≤ 4
  few_clauses = taken.limits.few_clauses

  pub few_comparisons : (c : Clause) → c ∈ e.condition → length c ≤ 6
  few_comparisons = clause_short taken.limits

  pub outputs_declared : (c : ℕ) → c ∈ e.outputs → c < length (columns_of ts)
  outputs_declared c m = scope_declared ts e c (all_has (in_scope ts e) m taken.formed.outputs)

-- ---- a job

pub record JobTaken (j : Job) : Type 0 where
  pub tables : T (all_of table_formed j.tables)
  pub some_column : 1 ≤ length (columns j)
  pub few_columns : length (columns j) ≤ 16
  pub range : T (all_of near (columns j))
  pub bounds : T (all_of bounds_fit (columns j))
  pub extract : Taken j.tables j.extract
  pub query : Taken j.tables j.query

pub job_taken : (j : Job) → T (well_formed j) → JobTaken j
job_taken j w =
    let f = (well_formed_lem j w).formed in
    let l = (well_formed_lem j w).limits in
    record {
      tables = f.tables;
      some_column = l.some_columns;
      few_columns = l.few_columns;
      range = l.ranges;
      bounds = columns_fit j.tables f.tables l.ranges;
      extract = expression_taken j.tables j.extract f.extract l.extract;
      query = expression_taken j.tables j.query f.query l.query;
    }
