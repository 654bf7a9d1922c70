-- `zone::tighten_row` meets its contract: a pass over the row, which leaves the other row as it was. Assumes nothing.
use Rattle.base.proofs.Arrays.{Pass}
use Rattle.zone.specs.Passes.{lowered}
use Rattle.zone.proofs.tighten_row.Given as goal

abbrev pub invariant-loop-j : goal.invariant-loop-j
invariant-loop-j l = Pass (lowered l.row l.from l.p l.initial.d) l.row l.n l.j l.initial.d l.d
