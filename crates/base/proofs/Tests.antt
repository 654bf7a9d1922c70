-- Laws of tests: those that agree, and choices by them. Assumes nothing.
use mathlib.Core.Path.{◌≡◌, refl, sym, ◌∙◌}
use mathlib.Core.Bool.{Bool, true, false, not, cond, ◌&&◌, ◌||◌}
use Prim.Native.Nat.{ℕ, ◌≤◌, ◌<◌}
use lib.Dec.{T, ltb}
use borrow.Author.Tests.{ltb-true, ltb-false, not-true, not-false}

-- ---- one test
pub T-is : (a : Bool) → T a → a ≡ true
T-is true t = refl
T-is false t = absurd t

pub is_T : {a : Bool} → a ≡ true → T a
is_T e = rw e tt

pub not_is : (a : Bool) → T (not a) → a ≡ false
not_is true t = absurd t
not_is false t = refl

pub stable : (b : Bool) → (T (not b) → ⊥) → T b
stable true f = tt
stable false f = f tt

-- ---- two tests
pub same_test : (s t : Bool) → (T s → T t) → (T t → T s) → s ≡ t
same_test true true f g = refl
same_test true false f g = absurd (f tt)
same_test false true f g = absurd (g tt)
same_test false false f g = refl

pub or_left : (a b : Bool) → T a → T (a || b)
or_left true b t = tt
or_left false b t = absurd t

pub or_right : (a b : Bool) → T b → T (a || b)
or_right true b t = tt
or_right false b t = t

pub neither : (a b : Bool) → T (not a) → T (not b) → T (not (a || b))
neither true b h k = absurd h
neither false b h k = k

pub not_or : (a b : Bool) → (not a && not b) ≡ not (a || b)
not_or true b = refl
not_or false b = refl

pub not_and : (a b : Bool) → (not a || not b) ≡ not (a && b)
not_and true b = refl
not_and false b = refl

-- ---- a test that was answered by r
pub passed : {r b : Bool} → r ≡ b → not r ≡ false → b ≡ true
passed {r} e h = sym e ∙ not-false r h

pub failed : {r b : Bool} → r ≡ b → not r ≡ true → b ≡ false
failed {r} e h = sym e ∙ not-true r h

-- ---- one of two numbers is less than the other, or not
pub by_less : {P : Type 0} (m n : ℕ) → (m < n → P) → (n ≤ m → P) → P
by_less {P} m n less more = go (ltb m n) refl
  where
    go : (t : Bool) → ltb m n ≡ t → P
    go true e = less (ltb-true m n e)
    go false e = more (ltb-false m n e)

-- what is chosen by m < n has the property P where each choice has it
pub cond_less : {A : Type 0} (m n : ℕ) (x y : A) (P : A → Type 0) → (m < n → P x) → (n ≤ m → P y) → P (cond (ltb m n) x y)
cond_less {A} m n x y P f g = go (ltb m n) refl
  where
    go : (t : Bool) → ltb m n ≡ t → P (cond t x y)
    go true e = f (ltb-true m n e)
    go false e = g (ltb-false m n e)
