-- The arrays of every record have their lengths. Assumes nothing.
use mathlib.Core.Path.{◌≡◌}
use mathlib.Core.List.{List, [], ◌∷◌}
use lib.ListN.{length}
use mir.Val.{Val}
use denote.Array.{each}
use denote.Laws.{Is}
use denote.Shadow.{shadow}
use Rattle.job.specs.declared.Clause.{Clause}
use Rattle.job.specs.declared.Condition.{Condition}
use Rattle.job.specs.declared.Expression.{Expression}
use Rattle.job.specs.declared.Columns.{Columns}
use Rattle.job.specs.declared.Job.{Job}
use Rattle.job.specs.contracts.Clause as clause
use Rattle.job.specs.contracts.Condition as condition
use Rattle.job.specs.contracts.Expression as expression
use Rattle.job.specs.contracts.Columns as columns
use Rattle.job.specs.contracts.Job as job

-- each has an array of six comparisons
abbrev pub Sixes : List Clause → Type 0
Sixes [] = Unit {0}
Sixes (c ∷ cs) = (length c.comparisons ≡ 6) × Sixes cs

pub record SizedCondition (k : Condition) : Type 0 where
  pub clauses : length k.clauses ≡ 4
  pub comparisons : Sixes k.clauses

pub record SizedExpression (e : Expression) : Type 0 where
  pub used : length e.used ≡ 4
  pub outputs : length e.outputs ≡ 16
  pub condition : SizedCondition e.condition

pub record Sized (r : Job) : Type 0 where
  pub columns : length r.declared.columns ≡ 16
  pub extract : SizedExpression r.extract
  pub query : SizedExpression r.query

pub six : (c : Clause) (vs : List Val) → Is clause.the_row c vs → length c.comparisons ≡ 6
six c vs h = h.1.1.1.0.1.0.1

sixes : (cs : List Clause) (us : List Val) → shadow (each (clause.the_row).Denot (clause.the_row).own_val cs us) → Sixes cs
sixes [] us h = tt
sixes (c ∷ cs) [] h = absurd h
sixes (c ∷ cs) (u ∷ us) h = (six c (u ∷ []) h.0, sixes cs us h.1)

pub sized_condition : (k : Condition) (vs : List Val) → Is condition.the_row k vs → SizedCondition k
sized_condition k vs h =
    let clauses = h.1.1.1.0.1 in
    record { clauses = clauses.0.1; comparisons = sixes k.clauses _ clauses.1 }

pub sized_expression : (e : Expression) (vs : List Val) → Is expression.the_row e vs → SizedExpression e
sized_expression e vs h = record {
  used = h.1.1.1.0.1.0.1;
  outputs = h.1.1.1.1.1.0.1.0.1;
  condition = sized_condition e.condition _ h.1.1.1.1.1.1.0;
}

pub sized_columns : (k : Columns) (vs : List Val) → Is columns.the_row k vs → length k.columns ≡ 16
sized_columns k vs h = h.1.1.1.1.0.1.0.1

pub sized : (r : Job) (vs : List Val) → Is job.the_row r vs → Sized r
sized r vs h = record {
  columns = sized_columns r.declared _ h.1.1.0;
  extract = sized_expression r.extract _ h.1.1.1.0;
  query = sized_expression r.query _ h.1.1.1.1.0;
}
