use native.Mathlib.Omega.{arith}
use mathlib.Core.Path.{refl, ◌∙◌}
use Rattle.base.proofs.Arrays.{pass_start, pass_end}
use Rattle.zone.proofs.Passes.{raised_turn}
use Rattle.zone.proofs.Zone.raise.Goals as goal

pub loop-y-init : goal.loop-y-init
loop-y-init g c = pass_start _ _ _ _

pub loop-y-preserved : goal.loop-y-preserved
loop-y-preserved g c =
    raised_turn c.args.self.now c.args.p c.args.v c.loop-y.invariant (omega (arith, c.loop-y.invariant.size, c.loop-y-test.true))
    (c.max.ensures ∙ rw (c.saturating_sub.ensures, c.entry.ensures.entry) refl)

pub returns : goal.returns
returns g c = pass_end c.loop-y.invariant (omega (arith, c.loop-y.invariant.size, c.loop-y-test.false))
