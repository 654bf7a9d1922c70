use native.Mathlib.Omega.{arith}
use mathlib.Core.Path.{refl}
use Rattle.base.proofs.Arrays.{pass_start, front_turn, front_list}
use Rattle.zone.proofs.copy.Goals as goal

pub loop-k-init : goal.loop-k-init
loop-k-init c = pass_start _ _ _ _

pub loop-k-preserved : goal.loop-k-preserved
loop-k-preserved c =
    front_turn c.loop-k.invariant (omega (arith, c.requires, c.loop-k.invariant.size, c.loop-k-test.true)) refl

pub returns : goal.returns
returns c =
    front_list 0 c.args.from.now c.loop-k.invariant (omega (arith, c.requires, c.loop-k.invariant.size, c.loop-k-test.false)) c.requires refl
