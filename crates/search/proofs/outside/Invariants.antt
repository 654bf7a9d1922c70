-- `search::outside` meets its contract: what is left of the clauses of each condition decides. Assumes nothing.
-- what is done with the rows of a pair of clauses
use mathlib.Core.Path.{◌≡◌}
use mathlib.Core.Bool.{false}
use mathlib.Core.Option.{Option}
use lib.ListN.{drop}
use Rattle.job.specs.Meaning.{condition_of}
use Rattle.zone.specs.Zone.{Zone}
use Rattle.conditions.specs.Meeting.{by_clause, pairs_of}
use Rattle.breaking.specs.declared.Choices.{Choices}
use Rattle.breaking.specs.Places.{choices_in}
use Rattle.search.specs.Search.{broken_by}
use Rattle.search.proofs.outside.Given as goal

abbrev sought : Choices → Zone → Option Zone
sought k y = broken_by y k.clauses (choices_in k)

abbrev pub invariant-second : goal.invariant-second
invariant-second g l = record {
  not_yet : l.found ≡ false;
  kept : l.on_way.first ≡ l.initial.on_way.first;
  left : by_clause l.on_way.first (drop l.e-index (condition_of l.fn.b)) (sought l.k)
      ≡ by_clause l.initial.on_way.first (condition_of l.fn.b) (sought l.k);
}

abbrev pub invariant-first : goal.invariant-first
invariant-first g l = record {
  not_yet : l.found ≡ false;
  left : by_clause l.z (drop l.c-index (condition_of l.fn.a)) (λ y. by_clause y (condition_of l.fn.b) (sought l.k))
      ≡ pairs_of l.z (condition_of l.fn.a) (condition_of l.fn.b) (sought l.k);
}
