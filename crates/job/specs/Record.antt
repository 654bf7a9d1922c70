-- A record's parts with zeros throughout, and the arrays that lists are held in.
use Rattle.std.specs.Prelude.{replicate, pos}
use Rattle.base.specs.Arrays.{EmptyPast}
use Rattle.base.specs.Lists.{◌∈◌}
use Rattle.job.specs.declared.Column.{Column}
use Rattle.job.specs.declared.Comparison.{Comparison}
use Rattle.job.specs.declared.Clause.{Clause}
use Rattle.job.specs.declared.Condition.{Condition}
use Rattle.job.specs.declared.Expression.{Expression}
use Rattle.job.specs.declared.Columns.{Columns}
use Rattle.job.specs.declared.Job.{Job}

abbrev pub no_column : Column
no_column = record { table = 0; bounds = record { lo = pos 0; hi = pos 0 } }

abbrev pub no_comparison : Comparison
no_comparison = record { op = 0; left = 0; right = 0; number = pos 0 }

abbrev pub no_clause : Clause
no_clause = record { size = 0; comparisons = replicate 6 no_comparison }

abbrev pub no_condition : Condition
no_condition = record { size = 0; clauses = replicate 4 no_clause }

abbrev pub no_expression : Expression
no_expression = record { tables = 0; used = replicate 4 0; width = 0; outputs = replicate 16 0; condition = no_condition }

abbrev pub no_columns : Columns
no_columns = record { tables = 0; width = 0; columns = replicate 16 no_column }

abbrev pub no_job : Job
no_job = record { declared = no_columns; extract = no_expression; query = no_expression }

-- ---- Entries past a count are zero

pub record TidyCondition (k : Condition) : Type 0 where
  pub clauses : EmptyPast 4 no_clause k.size k.clauses
  pub comparisons : (c : Clause) → c ∈ k.clauses → EmptyPast 6 no_comparison c.size c.comparisons

pub record TidyExpression (e : Expression) : Type 0 where
  pub used : EmptyPast 4 0 e.tables e.used
  pub outputs : EmptyPast 16 0 e.width e.outputs
  pub condition : TidyCondition e.condition

pub record Tidy (r : Job) : Type 0 where
  pub columns : EmptyPast 16 no_column r.declared.width r.declared.columns
  pub extract : TidyExpression r.extract
  pub query : TidyExpression r.query
