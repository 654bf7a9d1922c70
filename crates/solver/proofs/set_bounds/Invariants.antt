-- `solver::set_bounds` meets its contract: the bounds before place i are laid. Assumes nothing.
use Rattle.solver.proofs.Bounds.{Laying}
use Rattle.solver.proofs.set_bounds.Given as goal

abbrev pub invariant-loop-i : goal.invariant-loop-i
invariant-loop-i g l = Laying l.bounds l.i l.low l.high
