-- The ways in which clauses are broken, and the rows of a zone that break one.
use Rattle.std.specs.Prelude.{Bool, cond, ◌&&◌, List, [], ◌∷◌, ◌++◌, map, eqb, Option, Some, None}
use Rattle.std.proofs.Math.Option as maybe
use Rattle.std.proofs.Math.Option.{none, some}
use Rattle.base.specs.Lists.{any_of, all_of}
use Rattle.base.specs.Arrays.{padded}
use Rattle.model.specs.Tables.{Clause, Condition}
use Rattle.zone.specs.declared.Constraint.{Constraint}
use Rattle.zone.specs.Zone.{Zone, level, allows, tightened}
use Rattle.solver.specs.declared.Constraints.{Constraints}
use Rattle.solver.specs.Comparisons.{at_most_by, negations_of}

-- ---- The ways of a clause

abbrev pub same_constraint : Constraint → Constraint → Bool
same_constraint c e = eqb c.left e.left && (eqb c.right e.right && eqb c.most e.most)

-- one way more, unless it is there already
abbrev pub with_way : List Constraint → Constraint → List Constraint
with_way ws c = cond (any_of (same_constraint c) ws) ws (ws ++ c ∷ [])

-- and a second one, if there is any
abbrev pub with_second : List Constraint → Option Constraint → List Constraint
with_second ws None = ws
with_second ws (Some c) = with_way ws c

-- the ways in which a comparison fails
abbrev pub with_ways : List Constraint → Constraints → List Constraint
with_ways ws p = with_second (with_way ws p.first) p.second

-- with those of each comparison of a clause
abbrev pub with_clause : List Constraint → Clause → List Constraint
with_clause ws [] = ws
with_clause ws (k ∷ c) = with_clause (with_ways ws (negations_of k)) c

-- a row breaks the clause where it obeys one of these constraints
unfoldable pub ways_of : Clause → List Constraint
ways_of c = with_clause [] c

-- every row obeys it
abbrev pub free : Constraint
free = at_most_by 0 0 level

-- the ways of each clause; past the last one stands a clause that every row breaks, so that there are always four
unfoldable pub choices_of : Condition → List (List Constraint)
choices_of k = padded 4 (free ∷ []) (map ways_of k)

-- ---- Rows that break a clause

-- some row of the zone breaks the clause with these ways
unfoldable pub breakable : Zone → List Constraint → Bool
breakable z ws = any_of (allows z) ws

-- the rows of the zone that obey the constraint too, unless there are none, or each of them meets one of the clauses still to be broken
unfoldable pub chosen : Zone → Constraint → List (List Constraint) → maybe.Option Zone
chosen z c rest = cond (allows z c && all_of (breakable (tightened z c)) rest) (some (tightened z c)) none
