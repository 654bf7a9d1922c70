use mathlib.Core.Path.{refl}
use native.Mathlib.Omega.{arith}
use Rattle.base.proofs.Arrays.{pass_start, pass_turn, pass_end}
use Rattle.zone.proofs.lay_row.Goals as goal

pub loop-j-init : goal.loop-j-init
loop-j-init c = pass_start _ _ _ _

pub loop-j-preserved : goal.loop-j-preserved
loop-j-preserved c = pass_turn c.loop-j.invariant c.loop-j-test.true refl

pub shape_of-d : goal.shape_of-d
shape_of-d c = c.loop-j.invariant.size

pub returns : goal.returns
returns c = pass_end c.loop-j.invariant (omega (arith, c.loop-j-test.false))
