-- `databases::listing_of` meets its contract: a pass over the columns. Assumes nothing.
use mathlib.Core.List.{map}
use Rattle.base.proofs.Arrays.{Pass}
use Rattle.model.specs.Answers.{number_of_held}
use Rattle.databases.specs.Listing.{listed_at}
use Rattle.databases.proofs.listing_of.Given as goal

abbrev pub invariant-loop-c : goal.invariant-loop-c
invariant-loop-c l = Pass (listed_at l.k l.extract l.marks) 0 l.k.width l.c (map number_of_held l.initial.held-items) (map number_of_held l.held-items)
