-- Choices in a record: the ways of four clauses, also in another order. Assumes nothing.
use mathlib.Core.Path.{◌≡◌, ◌∙◌}
use mathlib.Core.List.{List, []}
use Prim.Native.Nat.{ℕ, ◌<◌}
use lib.ListN.{length, get_or, length-map, get_or-map}
use Rattle.base.specs.Lists.{at}
use Rattle.base.proofs.Places.{map_at}
use Rattle.breaking.specs.declared.Choices.{Choices}
use Rattle.breaking.specs.Places.{ways_in, no_ways, clause_ways, choices_in, in_order}

pub choices_at : (k : Choices) (q : ℕ) → get_or (choices_in k) q [] ≡ ways_in (clause_ways k q)
unfolding choices_in
choices_at k q = get_or-map ways_in k.ways q no_ways

module _ (k : Choices) (o : List ℕ) where
  pub order_length : length (in_order o (choices_in k)) ≡ length o
  unfolding in_order
  order_length = length-map o _

  pub order_at : (j : ℕ) → j < length o → get_or (in_order o (choices_in k)) j [] ≡ ways_in (clause_ways k (at o j))
  unfolding in_order
  order_at j h = map_at _ o j 0 [] h ∙ choices_at k (at o j)
