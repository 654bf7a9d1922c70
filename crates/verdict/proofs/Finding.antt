-- The kind and the finding, by one search after the other until one finds something. Assumes nothing.
use mathlib.Core.Path.{◌≡◌, refl, sym, ap, ◌∙◌}
use mathlib.Core.Bool.{Bool, true, false, cond, ◌&&◌}
use mathlib.Core.Option.{Option, none, some}
use Prim.Native.Nat.{ℕ}
use native.Mathlib.Omega.{arith}
use Rattle.base.specs.Options.{is_some, or_else}
use Rattle.base.proofs.Options.{none_of}
use Rattle.model.specs.Tables.{Condition}
use Rattle.model.specs.Verdict.{first_kind}
use Rattle.zone.specs.Zone.{Zone}
use Rattle.conditions.specs.Meeting.{met, pairs_of, always, Lies}
use Rattle.conditions.specs.Meeting.{Ends}
use Rattle.conditions.proofs.Meeting.{some_of, ends_none, ends_some}
use Rattle.verdict.specs.Found.{without, one_kind, one_found, two_kind, two_found}

-- what a search that found something tells: it is e
there : {o : Option Zone} {r : Bool} (e : Zone) → Ends o r e → r ≡ true → o ≡ some e
there {o} e ends some_row = let (y, is) = some_of o ends.0 some_row in is ∙ ap some (sym (ends.1 y is))

-- a kind, and the zone that shows it
abbrev pub Shows : ℕ → ℕ → Option Zone → Zone → Type 0
Shows r k o e = (r ≡ k) × Lies o e

lies_some : {o : Option Zone} (e : Zone) → o ≡ some e → Lies o e
lies_some e is = (ends_some e is).1

-- ---- among the rows of a zone

-- the first search found nothing, or wasn't made
abbrev pub Passed : Zone → Bool → Condition → Type 0
Passed z differ wants = cond differ (met z wants) none ≡ none

pub passes : (z : Zone) (differ : Bool) (wants : Condition) → (differ ≡ true → met z wants ≡ none) → Passed z differ wants
passes z true wants h = h refl
passes z false wants h = refl

not_first : (d : Bool) (o : Option Zone) → cond d o none ≡ none → (d && is_some o) ≡ false
not_first true o is = ap is_some is
not_first false o is = refl

-- r and e are what the last search answers and leaves
module _ (z : Zone) (differ : Bool) (keeps wants : Condition) {r : Bool} (e : Zone) where
  pub shows_1 : differ ≡ true → Ends (met z wants) r e → r ≡ true → Shows 1 (one_kind z differ keeps wants) (one_found z differ keeps wants) e
  unfolding one_kind one_found
  shows_1 d ends some_row =
      let is = there e ends some_row in
      (rw (d, is), lies_some e (rw (d, is)))

  module _ (passed : Passed z differ wants) (ends : Ends (without z always wants keeps) r e) where
    pub shows_2 : r ≡ true → Shows 2 (one_kind z differ keeps wants) (one_found z differ keeps wants) e
    unfolding one_kind one_found
    shows_2 some_row =
        let is = there e ends some_row in
        (rw (not_first differ (met z wants) passed, is), lies_some e (rw (passed, is)))

    pub shows_neither : r ≡ false → Shows 0 (one_kind z differ keeps wants) (one_found z differ keeps wants) e
    unfolding one_kind one_found
    shows_neither no_row =
        let is = none_of (without z always wants keeps) ends.0 no_row in
        let nothing : one_found z differ keeps wants ≡ none = rw (passed, is) in
        (rw (not_first differ (met z wants) passed, is), (ends_none e nothing).1)

module _ (z : Zone) (keeps wants others : Condition) (apart : Zone → Option Zone) {r : Bool} (e : Zone) where
  pub shows_3 : Ends (without z keeps wants others) r e → r ≡ true
      → Shows 3 (two_kind z keeps wants others apart) (two_found z keeps wants others apart) e
  unfolding two_kind two_found
  shows_3 ends some_row =
      let is = there e ends some_row in
      (rw is, lies_some e (rw is))

  module _ (passed : without z keeps wants others ≡ none) (ends : Ends (pairs_of z wants others apart) r e) where
    pub shows_4 : r ≡ true → Shows 4 (two_kind z keeps wants others apart) (two_found z keeps wants others apart) e
    unfolding two_kind two_found
    shows_4 some_row =
        let is = there e ends some_row in
        (rw (passed, is), lies_some e (rw (passed, is)))

    pub shows_none : r ≡ false → Shows 0 (two_kind z keeps wants others apart) (two_found z keeps wants others apart) e
    unfolding two_kind two_found
    shows_none no_row =
        let is = none_of (pairs_of z wants others apart) ends.0 no_row in
        let nothing : two_found z keeps wants others apart ≡ none = rw (passed, is) in
        (rw (passed, is), (ends_none e nothing).1)

-- ---- of a job: the second search comes where the first found nothing
module _ (a b c : Option Zone) (d : Bool) (o : Option Zone) where
  pub finds_first : ¬ (first_kind (d && is_some o) (is_some a) false false ≡ 0)
      → (first_kind (d && is_some o) (is_some a) false false ≡ first_kind (d && is_some o) (is_some a) (is_some b) (is_some c))
      × (or_else (cond d o none) a ≡ or_else (cond d o none) (or_else a (or_else b c)))
  finds_first = go d o a
    where
      go : (d : Bool) (o a : Option Zone) → ¬ (first_kind (d && is_some o) (is_some a) false false ≡ 0)
          → (first_kind (d && is_some o) (is_some a) false false ≡ first_kind (d && is_some o) (is_some a) (is_some b) (is_some c))
          × (or_else (cond d o none) a ≡ or_else (cond d o none) (or_else a (or_else b c)))
      go true none none n = absurd (n refl)
      go true none (some y) n = (refl, refl)
      go true (some x) a n = (refl, refl)
      go false o none n = absurd (n refl)
      go false o (some y) n = (refl, refl)

  pub finds_second : first_kind (d && is_some o) (is_some a) false false ≡ 0
      → (first_kind false false (is_some b) (is_some c) ≡ first_kind (d && is_some o) (is_some a) (is_some b) (is_some c))
      × (or_else b c ≡ or_else (cond d o none) (or_else a (or_else b c)))
  finds_second = go d o a
    where
      go : (d : Bool) (o a : Option Zone) → first_kind (d && is_some o) (is_some a) false false ≡ 0
          → (first_kind false false (is_some b) (is_some c) ≡ first_kind (d && is_some o) (is_some a) (is_some b) (is_some c))
          × (or_else b c ≡ or_else (cond d o none) (or_else a (or_else b c)))
      go true none none e = (refl, refl)
      go true none (some y) e = absurd (omega arith)
      go true (some x) a e = absurd (omega arith)
      go false o none e = (refl, refl)
      go false o (some y) e = absurd (omega arith)
