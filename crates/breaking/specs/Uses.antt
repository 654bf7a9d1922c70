-- What the functions ask of their callers, all of which is code of this repository.
use Rattle.std.specs.Prelude.{List, ℕ, ◌<◌, ◌≤◌, length, T}
use Rattle.base.specs.Lists.{◌∈◌, at}
use Rattle.zone.specs.declared.Constraint.{Constraint}
use Rattle.zone.specs.Zone.{Zone, allows}
use Rattle.zone.specs.Uses.{Joins}
use Rattle.breaking.specs.declared.Choices.{Choices}
use Rattle.breaking.specs.Places.{ways_in, clause_ways}

-- ways between n nodes
abbrev pub WaysFit : ℕ → List Constraint → Type 0
WaysFit n ws = (c : Constraint) → c ∈ ws → Joins n c

-- no more ways of each of four clauses than its array holds
abbrev pub FewWays : Choices → Type 0
FewWays k = (q : ℕ) → q < 4 → (clause_ways k q).count ≤ 12

-- the ways of each of four clauses are between n nodes
abbrev pub ChoicesFit : ℕ → Choices → Type 0
ChoicesFit n k = (q : ℕ) → q < 4 → WaysFit n (ways_in (clause_ways k q))

-- a zone with a constraint that some row of it obeys, and ways that are looked at after it
pub record LooksAfter (z : Zone) (c : Constraint) (ws : List Constraint) : Type 0 where
  pub way : Joins (length z) c
  pub allowed : T (allows z c)
  pub ways : WaysFit (length z) ws

-- numbers of four clauses
abbrev pub Numbers : List ℕ → Type 0
Numbers o = (i : ℕ) → i < length o → at o i < 4

-- a way between a zone's nodes, and choices
pub record Chooses (z : Zone) (c : Constraint) (k : Choices) (o : List ℕ) : Type 0 where
  pub way : Joins (length z) c
  pub choices : ChoicesFit (length z) k
  pub rest : Numbers o

-- a way that some row of the zone obeys
pub record LooksAhead (z : Zone) (c : Constraint) (k : Choices) (o : List ℕ) : Type 0 where
  pub chosen : Chooses z c k o
  pub allowed : T (allows z c)
