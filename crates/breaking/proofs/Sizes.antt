-- How many ways there are: two for each comparison at most, so that the ways of each clause have room. Assumes nothing.
use mathlib.Core.Path.{◌≡◌, ◌∙◌}
use mathlib.Core.List.Memᴰ
use mathlib.Core.List.{List, [], ◌∷◌, map}
use Prim.Native.Nat.{ℕ, zero, suc, ◌<◌, ◌≤◌}
use native.Mathlib.Omega.{arith}
use lib.ListN.{length, get_or, take, length-map, length-take}
use Rattle.base.specs.Lists.{◌∈◌}
use Rattle.base.proofs.Places.{map_at}
use Rattle.base.proofs.Arrays.{padded_length, get_or_padded, padded_past}
use Rattle.model.specs.Tables as model
use Rattle.job.specs.declared.Clause.{Clause}
use Rattle.job.specs.declared.Condition.{Condition}
use Rattle.job.specs.Meaning.{comparison_of, clause_of, condition_of}
use Rattle.zone.specs.declared.Constraint.{Constraint}
use Rattle.conditions.specs.Uses.{Small}
use Rattle.breaking.specs.Breaking.{ways_of, free, choices_of}

-- ---- The choices of a condition

-- the ways of a clause that isn't there
abbrev pub spare : List Constraint
spare = free ∷ []

module _ (k : model.Condition) where
  pub four_choices : length k ≤ 4 → length (choices_of k) ≡ 4
  unfolding choices_of
  four_choices few = padded_length 4 spare (map ways_of k) (omega (arith, length-map k ways_of))

  pub choice_at : (q : ℕ) → q < length k → get_or (choices_of k) q spare ≡ ways_of (get_or k q [])
  unfolding choices_of
  choice_at q h = get_or_padded 4 spare (map ways_of k) q spare (omega (arith, length-map k ways_of)) ∙ map_at ways_of k q [] spare h

  pub choice_past : (q : ℕ) → length k ≤ q → get_or (choices_of k) q spare ≡ spare
  unfolding choices_of
  choice_past q h = padded_past 4 spare (map ways_of k) q (omega (arith, length-map k ways_of))

-- ---- The condition of a record

sizes : (n : ℕ) (cs : List Clause) → ((q : ℕ) → q < n → (get_or cs q (record { size = 0; comparisons = [] })).size ≤ 6)
    → (c : Clause) → c ∈ take n cs → c.size ≤ 6
sizes zero cs h c m = absurd (Memᴰ.not-nil m)
sizes (suc n) [] h c m = absurd (Memᴰ.not-nil m)
sizes (suc n) (x ∷ cs) h c (Memᴰ.head e) = rw e (h 0 (omega arith))
sizes (suc n) (x ∷ cs) h c (Memᴰ.tail m) = sizes n cs (λ q l. h (suc q) (omega arith)) c m

taken : {A B : Type 0} (f : A → B) (n : ℕ) (l : List A) → length (map f (take n l)) ≤ n
taken f n l = omega (arith, length-map (take n l) f, length-take n l)

pub small_from : (k : Condition) → Small k → (length (condition_of k) ≤ 4) × ((c : model.Clause) → c ∈ condition_of k → length c ≤ 6)
small_from k s = (
  omega (arith, taken clause_of k.size k.clauses, s.clauses),
  λ c m.
      let (x, i, is) = Memᴰ.of_map clause_of (take k.size k.clauses) m in
      let six : x.size ≤ 6 = sizes k.size k.clauses (λ q l. s.comparisons q (omega (arith, s.clauses))) x i in
      rw (← is) (omega (arith, taken comparison_of x.size x.comparisons, six)),
)
