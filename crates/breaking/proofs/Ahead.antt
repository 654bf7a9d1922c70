-- Laws of the looks at clauses that are still to be broken. Assumes nothing.
use mathlib.Core.Path.{◌≡◌, refl}
use mathlib.Core.Bool.{Bool}
use mathlib.Core.List.{List, [], ◌∷◌}
use Prim.Native.Nat.{ℕ, zero, suc, ◌<◌}
use native.Mathlib.Omega.{arith}
use lib.ListN.{length, get_or}
use Rattle.base.specs.Lists.{at, all_of}
use Rattle.base.proofs.Places.{element}
use Rattle.std.specs.List.{list_all}
use Rattle.zone.specs.declared.Constraint.{Constraint}
use Rattle.zone.specs.Zone.{Zone}
use Rattle.zone.specs.Uses.{Follows}
use Rattle.breaking.specs.declared.Choices.{Choices}
use Rattle.breaking.specs.Breaking.{breakable}
use Rattle.breaking.specs.Places.{ways_in, clause_ways, choices_in, in_order}
use Rattle.breaking.specs.Uses.{Numbers, LooksAfter, LooksAhead}
use Rattle.breaking.proofs.Clauses.{choices_at}

-- ---- The ways of one clause; none stands for what is past the end

pub after_asks : {z : Zone} {c : Constraint} {ws : List Constraint} (none : Constraint) {i : ℕ} → LooksAfter z c ws → i < length ws
    → Follows z c (get_or ws i none)
after_asks {ws = ws} none {i} u more =
    record { first = u.way; allowed = u.allowed; second = u.ways (get_or ws i none) (element ws i none more) }

-- ---- The clauses of an order: each can be looked at by itself

module _ {z : Zone} {c : Constraint} {k : Choices} where
  pub ahead_one : {o : List ℕ} {i q : ℕ} → LooksAhead z c k o → i < length o → q ≡ at o i → LooksAhead z c k (q ∷ [])
  ahead_one {o} {i} {q} u h e =
      record { chosen = record { way = u.chosen.way; choices = u.chosen.choices; rest = one }; allowed = u.allowed }
    where
      one : Numbers (q ∷ [])
      one zero l = rw e (u.chosen.rest i h)
      one (suc j) l = omega arith

  pub ahead_in : {q : ℕ} → LooksAhead z c k (q ∷ []) → q < 4
  ahead_in u = u.chosen.rest 0 (omega arith)

  pub ahead_asks : {q : ℕ} → LooksAhead z c k (q ∷ []) → LooksAfter z c (ways_in (clause_ways k q))
  ahead_asks {q} u = record { way = u.chosen.way; allowed = u.allowed; ways = u.chosen.choices q (ahead_in u) }

-- what the look at clause q says
abbrev pub breaks : Zone → Choices → ℕ → Bool
breaks z k q = breakable z (ways_in (clause_ways k q))

pub all_open : (z : Zone) (k : Choices) (o : List ℕ) → list_all (breaks z k) o ≡ all_of (breakable z) (in_order o (choices_in k))
unfolding in_order
all_open z k [] = refl
all_open z k (q ∷ o) = rw (choices_at k q, all_open z k o)
