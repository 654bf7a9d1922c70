-- A well-formed job taken apart: what is said of its tables, of each expression, and of their sizes. Assumes nothing.
use mathlib.Core.Bool.{Bool, not, ◌&&◌}
use mathlib.Core.List.{List, [], ◌∷◌}
use Prim.Native.Nat.{◌<◌, ◌≤◌}
use native.Mathlib.Omega.{arith}
use lib.ListN.{length}
use lib.IntN.{ℤ, pos, negsuc}
use lib.Signed.{le_z, mag}
use lib.Dec.{T, leb, ltb, leb→le}
use mir.Facts.{and_yes}
use Rattle.base.specs.Lists.{◌∈◌, all_of, is_empty}
use Rattle.base.proofs.Lists.{all_has, all_weaker}
use Rattle.words.specs.Word.{sign_bit}
use Rattle.model.specs.Tables.{Table, Clause, Condition, Expression, Job, columns_of}
use Rattle.model.specs.declared.Bounds.{Bounds}
use Rattle.model.specs.WellFormed.{table_formed, ascending, no_repeats, in_scope, comparison_formed, expression_formed, structured, in_range, against_limited, condition_limited, limited, well_formed}

-- ---- tests in a row
abbrev Each : List Bool → Type 0
Each [] = Unit {0}
Each (b ∷ bs) = T b × Each bs

abbrev both : Bool → List Bool → Bool
both a [] = a
both a (b ∷ bs) = both (a && b) bs

each : (a : Bool) (bs : List Bool) → T (both a bs) → T a × Each bs
each a [] t = (t, tt)
each a (b ∷ bs) t = let (h, k) = each (a && b) bs t in let (x, y) = and_yes a b h in (x, (y, k))

-- ---- the structure of an expression
pub record Formed (ts : List Table) (e : Expression) : Type 0 where
  pub some_used : T (not (is_empty e.used))
  pub declared : T (all_of (λ t. ltb t (length ts)) e.used)
  pub ascends : T (ascending e.used)
  pub some_outputs : T (not (is_empty e.outputs))
  pub outputs : T (all_of (in_scope ts e) e.outputs)
  pub differ : T (no_repeats e.outputs)
  pub condition : T (all_of (all_of (comparison_formed ts e)) e.condition)

pub is_formed : (ts : List Table) (e : Expression) → T (expression_formed ts e) → Formed ts e
unfolding expression_formed
is_formed ts e t =
    let (a, (b, (c, (d, (f, (g, (h, k))))))) = each (not (is_empty e.used)) (
    all_of (λ t. ltb t (length ts)) e.used ∷ ascending e.used ∷ not (is_empty e.outputs)
    ∷ all_of (in_scope ts e) e.outputs ∷ no_repeats e.outputs ∷ all_of (all_of (comparison_formed ts e)) e.condition ∷ []) t in
    record { some_used = a; declared = b; ascends = c; some_outputs = d; outputs = f; differ = g; condition = h }

-- ---- the size of a condition
pub record Limited (k : Condition) : Type 0 where
  pub few_clauses : length k ≤ 4
  pub few_comparisons : T (all_of (λ c. leb (length c) 6) k)
  pub numbers : T (all_of (all_of (λ a. against_limited a.right)) k)

pub is_limited : (k : Condition) → T (condition_limited k) → Limited k
unfolding condition_limited
is_limited k t =
    let short : Clause → Bool = λ c. leb (length c) 6 in
    let near : Clause → Bool = all_of (λ a. against_limited a.right) in
    let (few, clauses) = and_yes (leb (length k) 4) (all_of (λ c. short c && near c) k) t in
    record {
      few_clauses = leb→le (length k) 4 few;
      few_comparisons = all_weaker (λ c. short c && near c) short (λ c h. (and_yes (short c) (near c) h).0) k clauses;
      numbers = all_weaker (λ c. short c && near c) near (λ c h. (and_yes (short c) (near c) h).1) k clauses;
    }

pub clause_short : {k : Condition} → Limited k → (c : Clause) → c ∈ k → length c ≤ 6
clause_short l c m = leb→le (length c) 6 (all_has (λ c. leb (length c) 6) m l.few_comparisons)

-- ---- the structure of a job
pub record JobFormed (j : Job) : Type 0 where
  pub tables : T (all_of table_formed j.tables)
  pub extract : Formed j.tables j.extract
  pub query : Formed j.tables j.query

pub job_formed : (j : Job) → T (structured j) → JobFormed j
unfolding structured
job_formed j t =
    let (f, (x, (q, u))) = each (all_of table_formed j.tables) (
    expression_formed j.tables j.extract ∷ expression_formed j.tables j.query ∷ []) t in
    record { tables = f; extract = is_formed j.tables j.extract x; query = is_formed j.tables j.query q }

-- ---- and its size

-- bounds in range
abbrev pub near : Bounds → Bool
near b = in_range b.lo && in_range b.hi

pub record JobLimited (j : Job) : Type 0 where
  pub some_tables : 1 ≤ length j.tables
  pub few_tables : length j.tables ≤ 4
  pub some_columns : 1 ≤ length (columns_of j.tables)
  pub few_columns : length (columns_of j.tables) ≤ 16
  pub ranges : T (all_of near (columns_of j.tables))
  pub extract : Limited j.extract.condition
  pub query : Limited j.query.condition

pub job_limited : (j : Job) → T (limited j) → JobLimited j
unfolding limited
job_limited j t =
    let ts = length j.tables in
    let cs = length (columns_of j.tables) in
    let (a, (b, (c, (d, (r, (m, (n, v))))))) = each (leb 1 ts) (
    leb ts 4 ∷ leb 1 cs ∷ leb cs 16 ∷ all_of near (columns_of j.tables)
    ∷ condition_limited j.extract.condition ∷ condition_limited j.query.condition ∷ []) t in
    record {
      some_tables = leb→le 1 ts a;
      few_tables = leb→le ts 4 b;
      some_columns = leb→le 1 cs c;
      few_columns = leb→le cs 16 d;
      ranges = r;
      extract = is_limited j.extract.condition m;
      query = is_limited j.query.condition n;
    }

-- ---- both
pub record WellFormed (j : Job) : Type 0 where
  pub formed : JobFormed j
  pub limits : JobLimited j

pub well_formed_lem : (j : Job) → T (well_formed j) → WellFormed j
unfolding well_formed
well_formed_lem j t = let (s, l) = and_yes (structured j) (limited j) t in record { formed = job_formed j s; limits = job_limited j l }

-- a value in range is of four bytes
pub range_word : (v : ℤ) → T (in_range v) → mag v < sign_bit 4
range_word v t = go v (and_yes (le_z (negsuc 999999) v) (le_z v (pos 1000000)) t)
  where
    go : (v : ℤ) → T (le_z (negsuc 999999) v) × T (le_z v (pos 1000000)) → mag v < sign_bit 4
    go (pos n) (low, high) = omega (arith, leb→le n 1000000 high)
    go (negsuc n) (low, high) = omega (arith, leb→le n 999999 low)
