-- `solver::from_nodes` meets its contract: a pass over the row. Assumes nothing.
use lib.ListN.{length, get_or}
use lib.IntN.{pos}
use Rattle.base.proofs.Arrays.{Pass}
use Rattle.solver.specs.Solver.{row_of}
use Rattle.solver.proofs.from_nodes.Given as goal

abbrev pub invariant-loop-i : goal.invariant-loop-i
invariant-loop-i l = Pass (λ k. get_or (row_of l.x) k (pos 0)) 0 (length l.initial.row) l.i l.initial.row l.row
