-- The search for a row that meets two conditions and breaks a third, over the ways in which clauses are met and broken.
use Rattle.std.specs.Prelude.{List, [], ◌∷◌, ℕ}
use Rattle.std.proofs.Math.Option.{Option, some}
use Rattle.base.specs.Options.{and_then, first_of}
use Rattle.model.specs.Tables.{Condition}
use Rattle.zone.specs.declared.Constraint.{Constraint}
use Rattle.zone.specs.Zone.{Zone}
use Rattle.conditions.specs.Meeting.{pairs_of}
use Rattle.breaking.specs.Breaking.{chosen}
use Rattle.breaking.specs.Places.{in_order}
use Rattle.search.specs.Order.{weights, order_by}

-- rows of the zone that break every clause, by the first choice of a way for each that leaves some
abbrev pub broken : Zone → List (List Constraint) → Option Zone
broken z [] = some z
broken z (ws ∷ rest) = first_of ws (λ c. and_then (chosen z c rest) (λ y. broken y rest))

-- the lightest clause first; the condition has so many
unfoldable pub broken_by : Zone → ℕ → List (List Constraint) → Option Zone
broken_by z count k = broken z (in_order (order_by (weights z count k)) k)

-- rows of the zone that meet both conditions and break every clause of another
unfoldable pub outside : Zone → Condition → Condition → ℕ → List (List Constraint) → Option Zone
outside z a b count k = pairs_of z a b (λ y. broken_by y count k)
