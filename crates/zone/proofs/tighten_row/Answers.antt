use native.Mathlib.Omega.{arith}
use Rattle.base.proofs.Arrays.{pass_start, pass_end}
use Rattle.zone.proofs.Passes.{lowered_low, lowered_high, lowered_turn}
use Rattle.zone.proofs.tighten_row.Goals as goal

pub loop-j-init : goal.loop-j-init
loop-j-init c = pass_start _ _ _ _

pub overflow_add-p : goal.overflow_add-p
overflow_add-p c = omega (arith, c.requires.lowers.p_fits, lowered_high c.requires.lowers c.loop-j.invariant c.loop-j-test.true)

pub overflow_sub-p : goal.overflow_sub-p
overflow_sub-p c = lowered_low c.requires.lowers c.loop-j.invariant c.loop-j-test.true

pub loop-j-preserved : goal.loop-j-preserved
loop-j-preserved c = lowered_turn c.requires.lowers c.loop-j.invariant c.loop-j-test.true c.min.ensures

pub shape_of-d : goal.shape_of-d
shape_of-d c = c.loop-j.invariant.size

pub returns : goal.returns
returns c = pass_end c.loop-j.invariant (omega (arith, c.loop-j-test.false))
