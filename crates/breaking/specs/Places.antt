-- Ways and choices in records: what counts of their arrays.
use Rattle.std.specs.Prelude.{List, [], map, ℕ, get_or, take}
use Rattle.zone.specs.declared.Constraint.{Constraint}
use Rattle.breaking.specs.declared.Ways.{Ways}
use Rattle.breaking.specs.declared.Choices.{Choices}

abbrev pub ways_in : Ways → List Constraint
ways_in w = take w.count w.list

-- what stands for ways that aren't there
abbrev pub no_ways : Ways
no_ways = record { count = 0; list = [] }

-- the ways of clause q
abbrev pub clause_ways : Choices → ℕ → Ways
clause_ways k q = get_or k.ways q no_ways

unfoldable pub choices_in : Choices → List (List Constraint)
choices_in k = map ways_in k.ways

-- the clauses in another order, or some of them
unfoldable pub in_order : List ℕ → List (List Constraint) → List (List Constraint)
in_order o k = map (λ q. get_or k q []) o
