-- The two rows that one row stands for.
use mathlib.Core.List.{List}
use Prim.Native.Nat.{ℕ}
use lib.ListN.{take}
use Rattle.base.specs.Lists.{tabulate}
use Rattle.model.specs.Tables.{Row, value}
use Rattle.twins.specs.Twins.{twin_of}

module _ (n : ℕ) (stored : List ℕ) where
  unfoldable pub first_row : Row → Row
  first_row t = take n t

  unfoldable pub second_row : Row → Row
  second_row t = tabulate n (λ c. value t (twin_of n stored c))
