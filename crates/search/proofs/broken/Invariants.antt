-- `search::broken` meets its contract. Assumes nothing.
-- what the search is for
use mathlib.Core.Path.{◌≡◌}
use lib.ListN.{length}
use mathlib.Core.Option.{Option}
use Rattle.zone.specs.Zone.{Zone}
use Rattle.breaking.specs.declared.Choices.{Choices}
use Rattle.breaking.specs.Places.{choices_in}
use Rattle.search.specs.Search.{broken_by}
use Rattle.search.proofs.Levels.{Trying}
use Rattle.search.proofs.broken.Given as goal

abbrev answer : Zone → Choices → Option Zone
answer x k = broken_by x k.clauses (choices_in k)

abbrev pub invariant-four : goal.invariant-four
invariant-four g l = (l.out ≡ l.initial.out) × Trying (length l.x) l.k l.order (answer l.x l.k) 3 l.initial.out l.d-index l.found

abbrev pub invariant-three : goal.invariant-three
invariant-three g l = Trying (length l.x) l.k l.order (answer l.x l.k) 2 l.v l.c-index l.found

abbrev pub invariant-two : goal.invariant-two
invariant-two g l = Trying (length l.x) l.k l.order (answer l.x l.k) 1 l.y l.b-index l.found

abbrev pub invariant-one : goal.invariant-one
invariant-one g l = Trying (length l.x) l.k l.order (answer l.x l.k) 0 l.x l.a-index l.found
