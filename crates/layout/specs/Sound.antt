-- What holds of every state that reading comes to: each part is well formed as far as it has been read.
use Rattle.std.specs.Prelude.{◌≡◌, true, false, not, ◌&&◌, List, [], ◌∷◌, ◌++◌, ℕ, ◌<◌, ◌≤◌, length, T, eqb, ltb, leb}
use Rattle.std.specs.Int.Signed.{le_z}
use Rattle.base.specs.Lists.{any_of, all_of, is_empty}
use Rattle.model.specs.Tables.{Table, Expression, columns_of}
use Rattle.model.specs.WellFormed.{ascending, no_repeats, in_scope, comparison_formed, in_range, against_limited, expression_formed}
use Rattle.model.specs.WellFormed.{condition_limited}
use Rattle.layout.specs.Commands.{in_condition}
use Rattle.layout.specs.Reading.{State, no_expression, current}

-- an expression of which commands have been read up to `last`
pub record Begun (ts : List Table) (last : ℕ) (e : Expression) : Type 0 where
  pub declared : T (all_of (λ t. ltb t (length ts)) e.used)
  pub ascends : T (ascending e.used)
  pub in_scope : T (all_of (in_scope ts e) e.outputs)
  pub differ : T (no_repeats e.outputs)
  pub formed : T (all_of (all_of (comparison_formed ts e)) e.condition)
  pub numbers : T (all_of (all_of (λ k. against_limited k.right)) e.condition)
  pub few_clauses : length e.condition ≤ 4
  pub few_comparisons : T (all_of (λ c. leb (length c) 6) e.condition)
  pub no_used : last < 0x30 → e.used ≡ []
  pub some_used : 0x30 ≤ last → T (not (is_empty e.used))
  pub no_outputs : last < 0x31 → e.outputs ≡ []
  pub some_outputs : 0x31 ≤ last → T (not (is_empty e.outputs))
  pub no_clauses : last < 0x40 → e.condition ≡ []
  pub some_clauses : T (any_of (eqb last) in_condition) → T (not (is_empty e.condition))

pub record Sound (st : State) : Type 0 where
  pub few_tables : length st.job.tables ≤ 4
  pub few_columns : length (columns_of st.job.tables) ≤ 16
  pub bounds : T (all_of (λ b. in_range b.lo && in_range b.hi && le_z b.lo b.hi) (columns_of st.job.tables))
  pub no_table : st.last ≡ 0 → st.job.tables ≡ []
  pub opened : st.last ≡ 0x10 → (ts : List Table) × (st.job.tables ≡ ts ++ [] ∷ []) × T (all_of (λ t. not (is_empty t)) ts)
  pub filled : 0x11 ≤ st.last → T (not (is_empty st.job.tables)) × T (all_of (λ t. not (is_empty t)) st.job.tables)
  pub declaring : st.last < 0x20 → (st.in_query ≡ false) × (st.job.extract ≡ no_expression)
  pub waiting : st.in_query ≡ false → st.job.query ≡ no_expression
  pub finished : st.in_query ≡ true
      → T (expression_formed st.job.tables st.job.extract) × T (condition_limited st.job.extract.condition)
  pub closed : st.last ≡ 0xFF → st.in_query ≡ true
  pub begun : Begun st.job.tables st.last (current st)
