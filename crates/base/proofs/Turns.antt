-- A loop that looks for the first element for which something is given: `left` says that what is left of the list decides. Assumes nothing.
use mathlib.Core.Path.{◌≡◌, sym}
use mathlib.Core.List.{List}
use mathlib.Core.Option.{Option, none, some}
use Prim.Native.Nat.{ℕ, ◌+◌, ◌<◌, ◌≤◌}
use native.Mathlib.Numerals.{add-one}
use lib.ListN.{length, get_or, drop, drop_of_length-le}
use lib.Seq.{drop-cons}
use Rattle.base.specs.Options.{first_of}

module _ {A B : Type 0} (f : A → Option B) (d : A) (xs : List A) (i : ℕ) {o : Option B} (left : first_of (drop i xs) f ≡ o) where
  pub first_none : length xs ≤ i → o ≡ none
  first_none h = sym (rw (drop_of_length-le xs {i = i} h) at left)

  pub first_more : i < length xs → f (get_or xs i d) ≡ none → first_of (drop (i + 1) xs) f ≡ o
  first_more h e = rw (add-one i) (rw (drop-cons xs i d h, e) at left)

  pub first_found : i < length xs → {y : B} → f (get_or xs i d) ≡ some y → o ≡ some y
  first_found h e = sym (rw (drop-cons xs i d h, e) at left)
