-- What clauses weigh, counted way by way. Assumes nothing.
use mathlib.Core.Path.{◌≡◌, refl, sym, ap, ◌∙◌}
use mathlib.Core.Bool.{Bool}
use mathlib.Core.List.{List, [], ◌∷◌}
use Prim.Native.Nat.{ℕ}
use lib.ListN.{length, get_or}
use Rattle.std.specs.List as list
use Rattle.base.specs.Lists.{filter, tabulate}
use Rattle.base.specs.Arrays.{padded}
use Rattle.base.proofs.Places.{tabulate_cong}
use Rattle.zone.specs.declared.Constraint.{Constraint}
use Rattle.zone.specs.Zone.{Zone, allows}
use Rattle.breaking.specs.declared.Choices.{Choices}
use Rattle.breaking.specs.Places.{ways_in, clause_ways, choices_in}
use Rattle.breaking.proofs.Clauses.{choices_at}
use Rattle.search.specs.Order.{weights}

-- the library's word says what the definition's does
pub filter_is : (p : Constraint → Bool) (ws : List Constraint) → list.filter p ws ≡ filter p ws
filter_is p [] = refl
filter_is p (c ∷ ws) = rw (filter_is p ws)

-- ---- what clause q weighs
abbrev pub weight_at : Zone → Choices → ℕ → ℕ
weight_at z k q = length (filter (allows z) (ways_in (clause_ways k q)))

pub weighed : (k : Choices) (z : Zone) {a : List ℕ} → a ≡ padded 4 13 (tabulate k.clauses (weight_at z k)) → a ≡ weights z k.clauses (choices_in k)
unfolding weights
weighed k z is =
    is ∙ ap (padded 4 13) (tabulate_cong k.clauses (weight_at z k) (λ q. length (filter (allows z) (get_or (choices_in k) q [])))
    (λ q h. ap (λ (us : List Constraint). length (filter (allows z) us)) (sym (choices_at k q))))
