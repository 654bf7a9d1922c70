use native.Mathlib.Omega.{arith}
use Rattle.base.proofs.Arrays.{pass_start, pass_end}
use Rattle.zone.proofs.Passes.{own_turn, other_turn}
use Rattle.zone.proofs.set_row.Goals as goal
use Rattle.zone.proofs.set_row.Goals.{else-i-y, then-i-y}

pub loop-y-init : goal.loop-y-init
loop-y-init c = pass_start _ _ _ _

pub overflow_sub-d : goal.overflow_sub-d
overflow_sub-d c = omega (arith, c.requires.enough c.loop-y.y (omega arith))

pub loop-y-preserved : goal.loop-y-preserved
loop-y-preserved c = elim c.if-i-y.branch [
  | then-i-y w ↦ own_turn c.requires c.loop-y.invariant (omega arith) w.if-i-y.true w.d-is
  | else-i-y w ↦ other_turn c.requires c.loop-y.invariant (omega arith) w.if-i-y.false w.d-is
]

pub shape_of-d : goal.shape_of-d
shape_of-d c = c.loop-y.invariant.size

pub returns : goal.returns
returns c = pass_end c.loop-y.invariant (omega arith)
