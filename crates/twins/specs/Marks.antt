-- Columns that are marked, one after the other.
use Rattle.std.specs.Prelude.{Bool, false, ◌||◌, List, ℕ, get_or}
use Rattle.base.specs.Arrays.{filled}

-- the marks that there are, and those of the first w columns for which f says so
unfoldable pub marked : ℕ → (ℕ → Bool) → List Bool → List Bool
marked w f marks = filled (λ c. get_or marks c false || f c) 0 w marks
