-- Nothing is found where f gives nothing for any closed zone. Assumes nothing.
use mathlib.Core.Path.{◌≡◌, refl, ◌∙◌}
use mathlib.Core.List.{[], ◌∷◌}
use mathlib.Core.Option.{Option, none, some}
use Prim.Native.Nat.{ℕ, zero, suc}
use lib.ListN.{length, drop}
use lib.Dec.{T}
use mir.Facts.{and_yes}
use Rattle.base.specs.Lists.{all_of}
use Rattle.base.specs.Options.{and_then}
use Rattle.model.specs.Tables as model
use Rattle.zone.specs.Zone.{Zone, Closed}
use Rattle.zone.proofs.Answers.{Answers}
use Rattle.solver.specs.Solver.{comparison_fits, imposed_all}
use Rattle.solver.proofs.Solver.{ObeysList, list_answers}
use Rattle.conditions.specs.Meeting.{by_clause, pairs_of}
use Rattle.conditions.specs.Uses.{condition_fits}

module _ {n : ℕ} {z : Zone} (closed : Closed z) (size : length z ≡ suc n) (f : Zone → Option Zone)
    (nothing : (y : Zone) → Closed y → length y ≡ suc n → f y ≡ none) where
  pub by_none : (c : model.Clause) → T (all_of (comparison_fits n) c) → and_then (imposed_all z c) f ≡ none
  by_none c fit = go (imposed_all z c) (list_answers n z c closed size fit)
    where
      go : (o : Option Zone) → Answers z (ObeysList c) o → and_then o f ≡ none
      go none a = refl
      go (some y) (cl, same, rows) = nothing y cl (same ∙ size)

  -- by what is left of the clauses of a condition
  pub clauses_none : (k : model.Condition) → T (condition_fits n k) → (i : ℕ) → by_clause z (drop i k) f ≡ none
  clauses_none [] fit zero = refl
  clauses_none [] fit (suc i) = refl
  clauses_none (c ∷ k) fit zero =
      let (g, h) = and_yes (all_of (comparison_fits n) c) (condition_fits n k) fit in
      rw (by_none c g, clauses_none k h zero)
  clauses_none (c ∷ k) fit (suc i) = clauses_none k (and_yes (all_of (comparison_fits n) c) (condition_fits n k) fit).1 i

-- nor by two conditions
pub pairs_none : {n : ℕ} {z : Zone} → Closed z → length z ≡ suc n → (f : Zone → Option Zone)
    → ((y : Zone) → Closed y → length y ≡ suc n → f y ≡ none)
    → (k l : model.Condition) → T (condition_fits n k) → T (condition_fits n l) → pairs_of z k l f ≡ none
unfolding pairs_of
pairs_none closed size f nothing k l fk fl =
    clauses_none closed size (λ y. by_clause y l f) (λ y cl same. clauses_none cl same f nothing l fl zero) k fk zero
