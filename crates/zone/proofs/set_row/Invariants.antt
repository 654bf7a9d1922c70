-- `zone::set_row` meets its contract: a pass over a row of the box. Assumes nothing.
use lib.ListN.{length}
use Rattle.base.proofs.Arrays.{Pass}
use Rattle.zone.specs.Passes.{box_row}
use Rattle.zone.proofs.set_row.Given as goal

abbrev pub invariant-loop-y : goal.invariant-loop-y
invariant-loop-y l = Pass (box_row l.i l.most l.lo) l.row (length l.lo) l.y l.initial.d l.d
