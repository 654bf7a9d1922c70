-- The clauses of a condition's record, one by one. Assumes nothing.
use mathlib.Core.Path.{◌≡◌, refl, ap, ◌∙◌}
use mathlib.Core.List.{List, []}
use Prim.Native.Nat.{ℕ, ◌<◌, ◌≤◌}
use native.Mathlib.Omega.{arith}
use lib.ListN.{length, get_or, take, length-map}
use lib.Seq.{length-take-le, get_or-take}
use Rattle.base.specs.Lists.{all_of}
use Rattle.base.proofs.Places.{all_at, map_at}
use Rattle.job.specs.declared.Clause.{Clause}
use Rattle.job.specs.declared.Condition.{Condition}
use Rattle.job.specs.Meaning.{clause_of, condition_of}
use Rattle.solver.specs.Solver.{comparison_fits}
use Rattle.conditions.specs.Uses.{ClauseFits, ConditionFits}

-- the one in place q of a slice of clauses
abbrev pub item : List Clause → ℕ → Clause
item s q = get_or s q (record { size = 0; comparisons = [] })

-- ---- s are the clauses of a condition, as a slice of its record
module _ (k : Condition) {s : List Clause} (is : s ≡ take k.size k.clauses) where
  pub items_length : length (condition_of k) ≡ length s
  items_length = rw is (length-map (take k.size k.clauses) clause_of)

  module _ {q : ℕ} (h : q < length s) where
    pub item_more : q < length (condition_of k)
    item_more = omega (arith, items_length)

    pub item_of : get_or (condition_of k) q [] ≡ clause_of (item s q)
    item_of = rw (← is) (map_at clause_of s q (record { size = 0; comparisons = [] }) [] h)

    pub item_fits : {n : ℕ} → ConditionFits n k → ClauseFits n (item s q)
    item_fits {n} u = rw item_of at (all_at (all_of (comparison_fits n)) (condition_of k) q [] u.fit item_more)

-- ---- it counts no more of them than its record holds
module _ (k : Condition) (fit : k.size ≤ length k.clauses) where
  pub condition_length : length (condition_of k) ≡ k.size
  condition_length = items_length k refl ∙ length-take-le k.size k.clauses fit

  pub clause_at : {q : ℕ} → q < k.size → get_or (condition_of k) q [] ≡ clause_of (item k.clauses q)
  clause_at {q} h =
      let more : q < length (take k.size k.clauses) = rw (length-take-le k.size k.clauses fit) h in
      item_of k refl more ∙ ap clause_of (get_or-take k.size k.clauses q (record { size = 0; comparisons = [] }) h)
