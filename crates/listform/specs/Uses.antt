-- What the functions ask of their callers.
use Rattle.std.specs.Prelude.{◌≡◌, List, ℕ, ◌+◌, ◌*◌, ◌≤◌, length, ℤ}
use Rattle.model.specs.declared.Bounds.{Bounds}
use Rattle.job.specs.declared.Comparison.{Comparison}

-- the bytes of a list, and room for its bounds and comparisons
pub record Rooms (s : List ℕ) (bounds : List Bounds) (list : List Comparison) : Type 0 where
  pub small : length bounds ≤ 32
  pub size : length s ≡ length bounds * 8 + length list * 7

-- and for a row
pub record SolveRooms (s : List ℕ) (bounds : List Bounds) (list : List Comparison) (row : List ℤ) : Type 0 where
  pub rooms : Rooms s bounds list
  pub room : length row ≡ length bounds

-- the bytes of a list of n columns and m comparisons, and room for its answer
pub record Room (n m : ℕ) (s out : List ℕ) : Type 0 where
  pub columns : n ≤ 32
  pub comparisons : m ≤ 255
  pub size : length s ≡ n * 8 + m * 7
  pub room : length out ≡ n * 4 + 1
