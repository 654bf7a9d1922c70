-- `zone::tighten_nodes` meets its contract: one node after the other. Assumes nothing.
use mathlib.Core.Path.{◌≡◌}
use lib.ListN.{take}
use Rattle.zone.specs.Passes.{lowered_at}
use Rattle.zone.proofs.tighten_nodes.Given as goal

abbrev pub invariant-loop-j : goal.invariant-loop-j
invariant-loop-j l = l.d ≡ lowered_at (take l.j-index l.nodes) l.row l.from l.p l.initial.d
