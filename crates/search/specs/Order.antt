-- The order in which the clauses of a condition are broken. Only the time that a search takes depends on it.
use Rattle.std.specs.Prelude.{cond, List, [], ◌∷◌, ℕ, zero, suc, length, get_or, ltb}
use Rattle.base.specs.Lists.{filter, at, range, tabulate}
use Rattle.base.specs.Arrays.{padded}
use Rattle.zone.specs.declared.Constraint.{Constraint}
use Rattle.zone.specs.Zone.{Zone, allows}

-- a clause weighs as much as it has ways that some row of the zone takes; past the last clause of the condition, more than any other
unfoldable pub weights : Zone → ℕ → List (List Constraint) → List ℕ
weights z count k = padded 4 13 (tabulate count (λ q. length (filter (allows z) (get_or k q []))))

-- the numbers in places i and i + 1 exchanged, where the second weighs less
abbrev pub exchanged : List ℕ → ℕ → List ℕ → List ℕ
exchanged ws i [] = []
exchanged ws i (a ∷ []) = a ∷ []
exchanged ws zero (a ∷ b ∷ o) = cond (ltb (at ws b) (at ws a)) (b ∷ a ∷ o) (a ∷ b ∷ o)
exchanged ws (suc i) (a ∷ b ∷ o) = a ∷ exchanged ws i (b ∷ o)

-- four clauses, the lightest first
unfoldable pub order_by : List ℕ → List ℕ
order_by ws = exchanged ws 0 (exchanged ws 1 (exchanged ws 0 (exchanged ws 2 (exchanged ws 1 (exchanged ws 0 (range 4))))))
