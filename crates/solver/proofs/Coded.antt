-- Comparisons as the code is given them: their nodes, what is added, and those of a list. Assumes nothing.
use mathlib.Core.Path.{◌≡◌, refl}
use mathlib.Core.List.{List, map}
use Prim.Native.Nat.{ℕ, zero, suc, ◌-◌, ◌*◌, ◌<◌, ◌≤◌}
use native.Mathlib.Omega.{arith}
use lib.ListN.{length, get_or, length-map}
use lib.IntN.{ℤ}
use lib.Signed.{mag}
use borrow.Author.Tests.{ne_eqb}
use Rattle.base.proofs.Places.{map_at}
use Rattle.words.specs.Word.{sign_bit}
use Rattle.words.proofs.Biases.{biased_low, biased_high}
use Rattle.job.specs.declared.Comparison.{Comparison}
use Rattle.job.specs.Record.{no_comparison}
use Rattle.job.specs.Meaning.{side_of, comparison_of}
use Rattle.zone.specs.Zone.{level}
use Rattle.solver.specs.Comparisons.{node_of, added_to}
use Rattle.solver.proofs.Progress.{Next}

-- ---- one comparison; a, b and w are its nodes and what is added, as the code has them
side_node : (r : ℕ) (v : ℤ) → node_of (side_of r v) ≡ r
side_node zero v = refl
side_node (suc r) v = rw (ne_eqb (suc r) 0 (λ e. omega arith)) (let e : suc (suc r - 1) ≡ suc r = omega arith in e)

-- a number of 32 bits leaves what is added within the level both ways
pub word_added : (r : ℕ) (v : ℤ) → mag v < sign_bit 4 → (0 < added_to (side_of r v)) × (added_to (side_of r v) < 2 * level)
word_added zero v h = (omega (arith, biased_low level (sign_bit 4) v h), omega (arith, biased_high level (sign_bit 4) v h))
word_added (suc r) v h = rw (ne_eqb (suc r) 0 (λ e. omega arith)) (omega arith, omega arith)

-- ---- those of a list

module _ (list : List Comparison) where
  pub list_done : {k : ℕ} → length list ≤ k → length (map comparison_of list) ≤ k
  list_done h = omega (arith, length-map list comparison_of)

  -- the next of them; d stands for what is past the end
  pub list_next : (d : Comparison) {k : ℕ} → k < length list → Next (map comparison_of list) k (comparison_of (get_or list k d))
  list_next d {k} h = (omega (arith, length-map list comparison_of), map_at comparison_of list k d (comparison_of no_comparison) h)
