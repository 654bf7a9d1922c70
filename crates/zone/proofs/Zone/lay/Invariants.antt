-- `Zone::lay` meets its contract: a pass over the rows. Assumes nothing.
use Prim.Native.Nat.{◌+◌, ◌*◌}
use Rattle.base.specs.Lists.{at}
use Rattle.zone.proofs.Rows.{RowPass}
use Rattle.zone.proofs.Zone.lay.Given as goal

abbrev pub invariant-loop-i : goal.invariant-loop-i
invariant-loop-i g l =
    RowPass (λ i j. at l.self-inside.entries (i * 33 + j)) l.self-inside.nodes l.i l.initial.d l.d
