-- Rows that meet a clause, laid into a zone: what is answered and left. Assumes nothing.
use mathlib.Core.Path.{◌≡◌, refl, sym, ap, ◌∙◌}
use mathlib.Core.Bool.{Bool, true, false, false≢true}
use mathlib.Core.List.{[], ◌∷◌}
use mathlib.Core.Option.{Option, none, some, none-ne-some, some-injective}
use lib.ListN.{length}
use Rattle.base.specs.Options.{is_some}
use Rattle.base.proofs.Options.{none_of}
use Rattle.model.specs.Tables as model
use Rattle.zone.specs.Zone.{Zone, kept}
use Rattle.solver.specs.Solver.{imposed, imposed_all}
use Rattle.solver.specs.Lists.{onward, reached}
use Rattle.solver.proofs.Found.{reached_is}
use Rattle.solver.proofs.Imposing.{imposed_length}
use Rattle.conditions.specs.Meeting.{Ends}

-- what an answer tells: there is something
pub some_of : {A : Type 0} {r : Bool} (o : Option A) → r ≡ is_some o → r ≡ true → (a : A) × (o ≡ some a)
some_of {A} o told some_row = go o (sym told ∙ some_row)
  where
    go : (o : Option A) → is_some o ≡ true → (a : A) × (o ≡ some a)
    go none e = absurd (false≢true e)
    go (some a) e = (a, refl)

-- ---- how a search ends

pub ends_none : {o : Option Zone} (e : Zone) → o ≡ none → Ends o false e
ends_none e is = (rw is, λ y found. absurd (none-ne-some y (sym is ∙ found)))

pub ends_some : {o : Option Zone} (e : Zone) → o ≡ some e → Ends o true e
ends_some e is = (rw is, λ y found. some-injective e y (sym is ∙ found))

-- what a search within the rows of a pair of clauses finds is what the whole search finds
pub within : {i o : Option Zone} {r : Bool} (e : Zone) → Ends i r e → r ≡ true → ((w : Zone) → i ≡ some w → o ≡ some w) → Ends o true e
within {i} {o} {r} e ends some_row found =
    let (w, is) = some_of i ends.0 some_row in
    ends_some e (found w is ∙ ap some (sym (ends.1 w is)))

-- ---- the rows of a zone that meet a clause were laid; r and e are what was answered and left
abbrev pub Laid : Zone → model.Clause → Bool → Zone → Type 0
Laid z k r e = record { answer : r ≡ is_some (imposed_all z k); zone : e ≡ reached z k }

-- what is reached has the same nodes
reached_length : (z : Zone) (k : model.Clause) → length (reached z k) ≡ length z
reached_length z [] = refl
reached_length z (c ∷ k) = go (imposed z c) (imposed_length z c) (λ y. reached_length y k)
  where
    go : (o : Option Zone) → length (kept z o) ≡ length z → ((y : Zone) → length (reached y k) ≡ length y)
        → length (onward o z (λ x. reached x k)) ≡ length z
    go none same rest = refl
    go (some y) same rest = rest y ∙ same

module _ (z : Zone) (k : model.Clause) {r : Bool} {e : Zone} (done : Laid z k r e) where
  -- no row meets it, or those that do are there
  pub laid_none : r ≡ false → imposed_all z k ≡ none
  laid_none = none_of (imposed_all z k) done.answer

  pub laid_found : r ≡ true → imposed_all z k ≡ some e
  laid_found some_row =
      let (y, is) = some_of (imposed_all z k) done.answer some_row in
      is ∙ ap some (sym (done.zone ∙ reached_is z k y is))

  pub laid_length : length e ≡ length z
  laid_length = ap length done.zone ∙ reached_length z k
