-- The words for what may be missing.
use Rattle.std.specs.Prelude.{Bool, true, false, List, [], ◌∷◌}
use Rattle.std.proofs.Math.Option.{Option, none, some}

module _ {A : Type 0} where
  -- whether there is something
  abbrev pub is_some : Option A → Bool
  is_some none = false
  is_some (some a) = true

  -- the first, or where there is none the second
  abbrev pub or_else : Option A → Option A → Option A
  or_else none b = b
  or_else (some a) b = some a

module _ {A B : Type 0} where
  -- what f makes of what there is
  abbrev pub and_then : Option A → (A → Option B) → Option B
  and_then none f = none
  and_then (some a) f = f a

  -- what f gives for the first element for which it gives something
  abbrev pub first_of : List A → (A → Option B) → Option B
  first_of [] f = none
  first_of (x ∷ xs) f = or_else (f x) (first_of xs f)

  -- what f gives, or nothing
  abbrev pub if_any : Option A → (A → B) → List B
  if_any none f = []
  if_any (some x) f = f x ∷ []
