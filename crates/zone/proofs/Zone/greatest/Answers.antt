use native.Mathlib.Omega.{arith}
use mathlib.Core.Path.{refl}
use Rattle.base.proofs.Arrays.{pass_start, front_turn}
use Rattle.zone.proofs.Values.{greatest_end}
use Rattle.zone.proofs.Zone.greatest.Goals as goal

pub loop-y-init : goal.loop-y-init
loop-y-init g c = pass_start _ _ _ _

pub loop-y-preserved : goal.loop-y-preserved
loop-y-preserved g c = front_turn c.loop-y.invariant (omega (arith, c.loop-y.invariant.size, c.loop-y-test.true)) (rw c.entry.ensures.entry refl)

pub returns : goal.returns
returns g c = greatest_end c.args.self.now c.requires c.loop-y.invariant (omega (arith, c.loop-y.invariant.size, c.loop-y-test.false))
