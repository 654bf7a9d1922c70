-- Laws of what may be missing. Assumes nothing.
use mathlib.Core.Path.{◌≡◌, refl, sym, ◌∙◌}
use mathlib.Core.Bool.{Bool, false, false≢true, ◌||◌}
use mathlib.Core.List.Memᴰ
use mathlib.Core.List.{List, [], ◌∷◌}
use mathlib.Core.Option.{Option, none, some}
use Rattle.base.specs.Lists.{◌∈◌}
use Rattle.base.specs.Options.{is_some, or_else, and_then, first_of}

-- an answer r that tells whether there is something
pub none_of : {A : Type 0} {r : Bool} (o : Option A) → r ≡ is_some o → r ≡ false → o ≡ none
none_of {A} o answer h = go o (sym answer ∙ h)
  where
    go : (o : Option A) → is_some o ≡ false → o ≡ none
    go none e = refl
    go (some y) e = absurd (false≢true (sym e))

-- ---- one after the other
module _ {A B : Type 0} {o : Option A} (f : A → Option B) where
  pub then_none : o ≡ none → and_then o f ≡ none
  then_none e = rw e

  pub then_some : {a : A} {b : Option B} → o ≡ some a → f a ≡ b → and_then o f ≡ b
  then_some e g = rw e g

pub then_itself : {A : Type 0} (o : Option A) → and_then o (λ y. some y) ≡ o
then_itself none = refl
then_itself (some y) = refl

-- ---- the one or the other
pub either_some : {A : Type 0} (a b c d : Option A) → is_some a ≡ is_some b → is_some c ≡ is_some d → is_some (or_else a c) ≡ is_some (or_else b d)
either_some a b c d e h = is a c ∙ rw (e, h) (sym (is b d))
  where
    is : {A : Type 0} (a c : Option A) → is_some (or_else a c) ≡ (is_some a || is_some c)
    is none c = refl
    is (some x) c = refl

-- ---- the first for which something is given
module _ {A B : Type 0} (f g : A → Option B) where
  pub first_cong : (xs : List A) → ((x : A) → x ∈ xs → f x ≡ g x) → first_of xs f ≡ first_of xs g
  first_cong [] h = refl
  first_cong (x ∷ xs) h = rw (h x (Memᴰ.head refl), first_cong xs (λ y m. h y (Memᴰ.tail m)))

  pub first_some : (xs : List A) → ((x : A) → x ∈ xs → is_some (f x) ≡ is_some (g x)) → is_some (first_of xs f) ≡ is_some (first_of xs g)
  first_some [] h = refl
  first_some (x ∷ xs) h =
      either_some (f x) (g x) (first_of xs f) (first_of xs g) (h x (Memᴰ.head refl)) (first_some xs (λ y m. h y (Memᴰ.tail m)))
