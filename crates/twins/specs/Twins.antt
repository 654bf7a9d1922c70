-- Two rows that agree in the stored columns, as one: the first row, and behind it the second row's values in the columns that aren't stored.
use Rattle.std.specs.Prelude.{Bool, not, cond, List, ◌++◌, map, ℕ, ◌+◌, length, get_or, pos, eqb}
use Rattle.base.specs.Lists.{range, any_of, filter}
use Rattle.model.specs.Tables.{Against, column, number, Comparison, Condition}
use Rattle.model.specs.declared.Bounds.{Bounds}

module _ (n : ℕ) (stored : List ℕ) where
  abbrev pub is_stored : ℕ → Bool
  is_stored c = any_of (eqb c) stored

  -- the columns that aren't stored: the second row has values of its own there
  unfoldable pub hidden : List ℕ
  hidden = filter (λ c. not (is_stored c)) (range n)

  -- how many of the columns below c are hidden
  unfoldable pub rank : ℕ → ℕ
  rank c = length (filter (λ d. not (is_stored d)) (range c))

  -- where the second row's value in column c stands
  unfoldable pub twin_of : ℕ → ℕ
  twin_of c = cond (is_stored c) c (n + rank c)

  -- the bounds of the two rows as one
  unfoldable pub twin_bounds : List Bounds → List Bounds
  twin_bounds bs = bs ++ map (λ c. get_or bs c (record { lo = pos 0; hi = pos 0 })) hidden

-- a condition with its columns named anew
abbrev pub renamed_side : (ℕ → ℕ) → Against → Against
renamed_side f (column c) = column (f c)
renamed_side f (number v) = number v

abbrev pub renamed_comparison : (ℕ → ℕ) → Comparison → Comparison
renamed_comparison f k = record { op = k.op; left = f k.left; right = renamed_side f k.right }

unfoldable pub renamed : (ℕ → ℕ) → Condition → Condition
renamed f k = map (map (renamed_comparison f)) k
