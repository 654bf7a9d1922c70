use native.Mathlib.Omega.{arith}
use mathlib.Core.Path.{refl}
use Rattle.base.proofs.Arrays.{pass_start, front_turn, front_end}
use Rattle.databases.specs.Databases.{present_in}
use Rattle.databases.proofs.present.Goals as goal

pub loop-t-init : goal.loop-t-init
loop-t-init c = pass_start _ _ _ _

pub loop-t-preserved : goal.loop-t-preserved
loop-t-preserved c = front_turn c.loop-t.invariant (omega (arith, c.loop-t-test.true, c.loop-t.invariant.size)) c.both_use.ensures

pub returns : goal.returns
unfolding present_in
returns c = front_end c.loop-t.invariant (omega (arith, c.loop-t-test.false, c.loop-t.invariant.size)) refl
