-- `twins::first_row` meets its contract: a pass over the row. Assumes nothing.
use mathlib.Core.Path.{◌≡◌}
use lib.ListN.{length, replicate}
use lib.IntN.{pos}
use Rattle.base.proofs.Arrays.{Pass}
use Rattle.model.specs.Tables.{value}
use Rattle.twins.proofs.first_row.Given as goal

abbrev pub invariant-loop-c : goal.invariant-loop-c
invariant-loop-c l = (length l.row ≡ 32) × Pass (value l.row) 0 l.n l.c (replicate 16 (pos 0)) l.first
