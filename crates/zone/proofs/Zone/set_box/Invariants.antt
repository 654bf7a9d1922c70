-- `Zone::set_box` meets its contract: a pass over the rows of the box. Assumes nothing.
use lib.ListN.{length}
use Rattle.zone.proofs.Rows.{RowPass}
use Rattle.zone.proofs.Turns.{box_rows}
use Rattle.zone.proofs.Zone.set_box.Given as goal

abbrev pub invariant-loop-i : goal.invariant-loop-i
invariant-loop-i g l = RowPass (box_rows l.lo l.hi) (length l.lo) l.i l.initial.self-inside.entries l.self-inside.entries
