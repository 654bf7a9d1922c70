-- What a record that is being read into holds: its parts are those of the job that it stands for. Assumes nothing.
use mathlib.Core.Path.{◌≡◌, ap, ◌∙◌}
use mathlib.Core.Bool.{Bool}
use Prim.Native.Nat.{◌≤◌}
use native.Mathlib.Omega.{arith}
use lib.ListN.{length}
use Rattle.base.specs.Lists.{last_of}
use Rattle.model.specs.Tables as model
use Rattle.model.specs.Tables.{columns_of}
use Rattle.job.specs.declared.Condition.{Condition}
use Rattle.job.specs.declared.Expression.{Expression}
use Rattle.job.specs.declared.Job.{Job}
use Rattle.job.specs.Meaning.{condition_record, expression_record, record_of}
use Rattle.layout.specs.Reading.{State, current}
use Rattle.commands.specs.Reached.{Held}
use Rattle.commands.specs.Uses.{current_in, last_clause}
use Rattle.commands.proofs.Laid.{current_laid}
use Rattle.commands.proofs.Looks.{last_size_is}

module _ {r : Job} {st : State} (h : Held r st) where
  -- the current expression, and how the record has it
  abbrev m : model.Expression
  m = current st

  abbrev ex : Expression
  ex = current_in st.in_query r

  pub tables_held : r.declared.tables ≡ length st.job.tables
  unfolding record_of
  tables_held = ap (λ (x : Job). x.declared.tables) h.laid

  pub tables_few : r.declared.tables ≤ 4
  tables_few = omega (arith, tables_held, h.sound.few_tables)

  pub width_held : r.declared.width ≡ length (columns_of st.job.tables)
  unfolding record_of
  width_held = ap (λ (x : Job). x.declared.width) h.laid

  pub width_small : r.declared.width ≤ 16
  width_small = omega (arith, width_held, h.sound.few_columns)

  pub current_held : ex ≡ expression_record m
  current_held = ap (current_in st.in_query) h.laid ∙ current_laid st.in_query st.job

  pub used_held : ex.tables ≡ length m.used
  unfolding expression_record
  used_held = ap (λ (x : Expression). x.tables) current_held

  pub outputs_held : ex.width ≡ length m.outputs
  unfolding expression_record
  outputs_held = ap (λ (x : Expression). x.width) current_held

  pub condition_held : ex.condition ≡ condition_record m.condition
  unfolding expression_record
  condition_held = ap (λ (x : Expression). x.condition) current_held

  pub size_held : ex.condition.size ≡ length m.condition
  size_held = ap (λ (k : Condition). k.size) condition_held

  pub size_small : ex.condition.size ≤ 4
  size_small = omega (arith, size_held, h.sound.begun.few_clauses)

  pub comparisons_held : (last_clause ex.condition).size ≡ length (last_of m.condition)
  comparisons_held = ap (λ (k : Condition). (last_clause k).size) condition_held ∙ last_size_is m.condition

  -- ---- the record's current expression, by whether the query has begun
  module _ (q : Bool) (e : st.in_query ≡ q) where
    pub current_at : current_in q r ≡ expression_record m
    current_at = rw (← e) current_held

    pub current_within : (current_in q r).condition.size ≤ 4
    current_within = rw (← e) size_small
