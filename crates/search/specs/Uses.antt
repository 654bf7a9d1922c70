-- What the functions ask of their callers, all of which is code of this repository.
use Rattle.std.specs.Prelude.{List, ℕ, ◌<◌, ◌≤◌, length}
use Rattle.base.specs.Lists.{at}
use Rattle.job.specs.declared.Condition.{Condition}
use Rattle.zone.specs.Zone.{Zone}
use Rattle.conditions.specs.Uses.{Searches}
use Rattle.breaking.specs.declared.Choices.{Choices}
use Rattle.breaking.specs.Uses.{ChoicesFit}

-- four numbers of clauses
abbrev pub Order : List ℕ → Type 0
Order o = (q : ℕ) → q < 4 → at o q < 4

-- at most four clauses of ways between n nodes
pub record Weighs (n : ℕ) (k : Choices) : Type 0 where
  pub choices : ChoicesFit n k
  pub few : k.clauses ≤ 4

-- two conditions of a zone's columns, and the ways to break a third
pub record SearchesOutside (z : Zone) (a b : Condition) (k : Choices) : Type 0 where
  pub searches : Searches z a b
  pub weighs : Weighs (length z) k
