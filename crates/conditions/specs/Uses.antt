-- What the functions ask of their callers, all of which is code of this repository.
use Rattle.std.specs.Prelude.{Bool, [], ℕ, ◌<◌, ◌≤◌, get_or, T}
use Rattle.base.specs.Lists.{all_of}
use Rattle.model.specs.Tables as model
use Rattle.job.specs.declared.Clause.{Clause}
use Rattle.job.specs.declared.Condition.{Condition}
use Rattle.job.specs.Meaning.{clause_of, condition_of}
use Rattle.zone.specs.Zone.{Zone, columns_of}
use Rattle.solver.specs.Solver.{comparison_fits}

-- a clause of comparisons of n columns
abbrev pub ClauseFits : ℕ → Clause → Type 0
ClauseFits n c = T (all_of (comparison_fits n) (clause_of c))

-- every comparison of a condition fits n columns
abbrev pub condition_fits : ℕ → model.Condition → Bool
condition_fits n = all_of (all_of (comparison_fits n))

-- the counts of a condition's clauses and comparisons are no more than its arrays hold
pub record Small (k : Condition) : Type 0 where
  pub clauses : k.size ≤ 4
  pub comparisons : (q : ℕ) → q < 4 → (get_or k.clauses q (record { size = 0; comparisons = [] })).size ≤ 6

-- a condition of comparisons of n columns
pub record ConditionFits (n : ℕ) (k : Condition) : Type 0 where
  pub small : Small k
  pub fit : T (condition_fits n (condition_of k))

-- two conditions of comparisons of a zone's columns
pub record Searches (z : Zone) (k l : Condition) : Type 0 where
  pub first : ConditionFits (columns_of z) k
  pub second : ConditionFits (columns_of z) l
