-- `zone::lay_row` meets its contract: a pass over a row. Assumes nothing.
use Prim.Native.Nat.{◌+◌}
use Rattle.base.specs.Lists.{at}
use Rattle.base.proofs.Arrays.{Pass}
use Rattle.zone.proofs.lay_row.Given as goal

abbrev pub invariant-loop-j : goal.invariant-loop-j
invariant-loop-j l = Pass (λ j. at l.entries (l.row + j)) l.row l.n l.j l.initial.d l.d
