-- Laws of one choice: the rows of a zone that obey one constraint more. Assumes nothing.
use mathlib.Core.Path.{◌≡◌, refl, sym, ◌∙◌}
use mathlib.Core.Bool.{Bool, true, false, cond, ◌&&◌}
use mathlib.Core.Option.{none, some, none-ne-some, some-injective}
use mathlib.Core.List.{List}
use lib.ListN.{length}
use Rattle.base.specs.Lists.{all_of}
use Rattle.zone.specs.declared.Constraint.{Constraint}
use Rattle.zone.specs.Zone.{Zone, allows, tightened, constrained, kept}
use Rattle.zone.proofs.Closed.{tight_length}
use Rattle.breaking.specs.Breaking.{breakable, chosen}
use Rattle.conditions.specs.Meeting.{Ends}
use Rattle.conditions.proofs.Meeting.{ends_none, ends_some}

-- ---- What is chosen

module _ (z : Zone) (c : Constraint) (rest : List (List Constraint)) where
  chosen_none : (allows z c && all_of (breakable (tightened z c)) rest) ≡ false → chosen z c rest ≡ none
  unfolding chosen
  chosen_none h = rw h

  chosen_some : (allows z c && all_of (breakable (tightened z c)) rest) ≡ true → chosen z c rest ≡ some (tightened z c)
  unfolding chosen
  chosen_some h = rw h

  -- what was chosen has the zone's nodes
  pub chosen_length : {y : Zone} → chosen z c rest ≡ some y → length y ≡ length z
  unfolding chosen
  chosen_length {y} is = go (allows z c && all_of (breakable (tightened z c)) rest) is
    where
      go : (l : Bool) → cond l (some (tightened z c)) none ≡ some y → length y ≡ length z
      go false found = absurd (none-ne-some y found)
      go true found = rw (← (some-injective (tightened z c) y found)) (tight_length z c)

-- ---- What `choose` does with a way, which is c; l is what the look at the zone says, s what the look ahead says

module _ (z : Zone) (c : Constraint) (rest : List (List Constraint)) {l : Bool} (look : l ≡ allows z c) where
  pub none_obeys : (e : Zone) → l ≡ false → Ends (chosen z c rest) false e
  none_obeys e h = ends_none e (chosen_none z c rest (rw (sym look ∙ h)))

  module _ (h : l ≡ true) {s : Bool} (ahead : s ≡ all_of (breakable (tightened z c)) rest) where
    pub none_ahead : (e : Zone) → s ≡ false → Ends (chosen z c rest) false e
    none_ahead e g = ends_none e (chosen_none z c rest (rw (sym look ∙ h, sym ahead ∙ g)))

    -- e is the copy, and f what is kept of it
    pub lays : {e f : Zone} → s ≡ true → e ≡ z → f ≡ kept e (constrained e c) → Ends (chosen z c rest) true f
    unfolding constrained
    lays {e} {f} g copy done =
        let some_row : allows z c ≡ true = sym look ∙ h in
        let left : f ≡ tightened z c = rw (done, copy, some_row) refl in
        ends_some f (rw left (chosen_some z c rest (rw (some_row, sym ahead ∙ g))))
