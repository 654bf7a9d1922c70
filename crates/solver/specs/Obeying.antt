-- Rows of nodes that obey constraints of a list.
use Rattle.std.specs.Prelude.{◌⊎◌, List, [], ◌∷◌, ℕ}
use Rattle.zone.specs.declared.Constraint.{Constraint}
use Rattle.zone.specs.Zone.{Obeys}

-- every one of them
abbrev pub ObeysAll : List Constraint → List ℕ → Type 0
ObeysAll [] x = Unit {0}
ObeysAll (c ∷ cs) x = Obeys c x × ObeysAll cs x

-- some of them
abbrev pub ObeysSome : List Constraint → List ℕ → Type 0
ObeysSome [] x = ⊥
ObeysSome (c ∷ cs) x = Obeys c x ⊎ ObeysSome cs x
