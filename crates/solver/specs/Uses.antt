-- What the functions ask of their callers, all of which is code of this repository.
use Rattle.std.specs.Prelude.{◌≡◌, List, ℕ, suc, ◌+◌, ◌*◌, ◌<◌, ◌≤◌, length, map, get_or, ℤ, pos, T}
use Rattle.std.specs.Int.Signed.{mag}
use Rattle.base.specs.Lists.{all_of, at}
use Rattle.words.specs.Bias.{bias}
use Rattle.words.specs.Word.{sign_bit}
use Rattle.model.specs.declared.Bounds.{Bounds}
use Rattle.job.specs.declared.Comparison.{Comparison}
use Rattle.job.specs.Meaning.{comparison_of}
use Rattle.zone.specs.Zone.{Zone}
use Rattle.solver.specs.Comparisons.{Nodes}
use Rattle.solver.specs.Solver.{bounds_fit, comparison_fits}

-- every value is of 32 bits; an i32 slice has no others, but a proof learns it only by reading them
abbrev pub Words : List ℤ → Type 0
Words v = (i : ℕ) → i < length v → mag (get_or v i (pos 0)) < sign_bit 4

-- a row of nodes whose values are of 32 bits, and room for them
pub record WordNodes (x : List ℕ) (row : List ℤ) : Type 0 where
  pub size : length x ≡ length row + 1
  pub low : (i : ℕ) → i < length row → bias ≤ at x (suc i) + sign_bit 4
  pub high : (i : ℕ) → i < length row → at x (suc i) < bias + sign_bit 4

-- bounds of at most 32 columns, and room for a zone of so many
pub record BoundsRoom (size : ℕ) (bs : List Bounds) : Type 0 where
  pub room : (length bs + 1) * 33 ≤ size
  pub small : length bs ≤ 32
  pub fit : T (all_of bounds_fit bs)

-- two nodes of a zone
pub record NodesIn (z : Zone) (n : Nodes) : Type 0 where
  pub left_in : n.left < length z
  pub right_in : n.right < length z

-- bounds, comparisons of their columns, and room for a row
pub record Solves (bs : List Bounds) (list : List Comparison) (row : List ℤ) : Type 0 where
  pub small : length bs ≤ 32
  pub bounds : T (all_of bounds_fit bs)
  pub fit : T (all_of (comparison_fits (length bs)) (map comparison_of list))
  pub room : length row ≡ length bs
