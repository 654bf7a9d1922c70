-- Lists in arrays, and arrays that are filled place by place.
use Rattle.std.specs.Prelude.{◌≡◌, List, ◌++◌, ℕ, zero, suc, ◌+◌, ◌-◌, length, set, drop, replicate}

module _ {A : Type 0} where
  -- a list in an array of n entries: past its length, each is the empty one
  abbrev pub padded : ℕ → A → List A → List A
  padded n empty l = l ++ replicate (n - length l) empty

  -- from entry k on, an array of n entries has empty ones only
  abbrev pub EmptyPast : ℕ → A → ℕ → List A → Type 0
  EmptyPast n empty k l = drop k l ≡ replicate (n - k) empty

  -- f 0, f 1 and so on, n of them, stored from a place on
  unfoldable pub filled : (ℕ → A) → ℕ → ℕ → List A → List A
  filled f from zero xs = xs
  filled f from (suc n) xs = set (filled f from n xs) (from + n) (f n)
