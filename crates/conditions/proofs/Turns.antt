-- A loop over the clauses of a condition, which are the slice s: `left` says that what is left of them decides. Assumes nothing.
use mathlib.Core.Path.{◌≡◌, refl}
use mathlib.Core.Bool.{Bool, true, false}
use mathlib.Core.List.{List, [], ◌∷◌}
use mathlib.Core.Option.{Option, none, some}
use Prim.Native.Nat.{ℕ, ◌+◌, ◌<◌, ◌≤◌}
use native.Mathlib.Omega.{arith}
use lib.ListN.{length, take, drop}
use Rattle.base.specs.Options.{and_then, first_of}
use Rattle.base.proofs.Options.{then_none, then_some}
use Rattle.base.proofs.Turns.{first_none, first_more, first_found}
use Rattle.model.specs.Tables as model
use Rattle.job.specs.declared.Clause.{Clause}
use Rattle.job.specs.declared.Condition.{Condition}
use Rattle.job.specs.Meaning.{clause_of, condition_of}
use Rattle.zone.specs.Zone.{Zone}
use Rattle.solver.specs.Solver.{imposed_all}
use Rattle.conditions.specs.Meeting.{by_clause, pairs_of}
use Rattle.conditions.proofs.Clauses.{item, items_length, item_more, item_of}
use Rattle.conditions.proofs.Meeting.{Laid, laid_none, laid_found}

module _ (k : Condition) {s : List Clause} (is : s ≡ take k.size k.clauses) where
  -- ---- f is what is given for a clause
  module _ (f : model.Clause → Option Zone) (q : ℕ) {o : Option Zone} (left : first_of (drop q (condition_of k)) f ≡ o) where
    pub turns_end : length s ≤ q → o ≡ none
    turns_end h = first_none f [] (condition_of k) q left (rw (items_length k is) h)

    next_clause : q < length s → f (clause_of (item s q)) ≡ none → first_of (drop (q + 1) (condition_of k)) f ≡ o
    next_clause h e = first_more f [] (condition_of k) q left (item_more k is h) (rw (item_of k is h) e)

    pub this_clause : q < length s → {w : Zone} → f (clause_of (item s q)) ≡ some w → o ≡ some w
    this_clause h e = first_found f [] (condition_of k) q left (item_more k is h) (rw (item_of k is h) e)

  -- ---- clause q is laid: b and y are what that answers and leaves; f is what is done with its rows
  module _ {q : ℕ} (h : q < length s) (z : Zone) {b : Bool} {y : Zone} (laid : Laid z (clause_of (item s q)) b y)
      (f : Zone → Option Zone) {o : Option Zone} (left : by_clause z (drop q (condition_of k)) f ≡ o) where
    pub turn_without : b ≡ false → by_clause z (drop (q + 1) (condition_of k)) f ≡ o
    turn_without no_row = next_clause _ q left h (then_none f (laid_none z _ laid no_row))

    pub turn_passed : b ≡ true → f y ≡ none → by_clause z (drop (q + 1) (condition_of k)) f ≡ o
    turn_passed some_row e = next_clause _ q left h (then_some f (laid_found z _ laid some_row) e)

    pub turn_with : b ≡ true → {w : Zone} → f y ≡ some w → o ≡ some w
    turn_with some_row e = this_clause _ q left h (then_some f (laid_found z _ laid some_row) e)

-- nothing is found by any clause where f gives nothing
gives_none : (f : Zone → Option Zone) → ((y : Zone) → f y ≡ none) → (z : Zone) (a : model.Condition) → by_clause z a f ≡ none
gives_none f nothing z [] = refl
gives_none f nothing z (c ∷ a) = rw (go (imposed_all z c), gives_none f nothing z a)
  where
    go : (o : Option Zone) → and_then o f ≡ none
    go none = refl
    go (some y) = nothing y

-- so nothing is found in the rows that meet two conditions, where the second one has no clause
pub no_second : (k : Condition) {s : List Clause} (is : s ≡ take k.size k.clauses) → length s ≡ 0
    → (z : Zone) (a : model.Condition) (f : Zone → Option Zone) → pairs_of z a (condition_of k) f ≡ none
unfolding pairs_of
no_second k is h z a f =
    gives_none (λ y. by_clause y (condition_of k) f) (λ y. turns_end k is _ 0 refl (omega (arith, h))) z a
