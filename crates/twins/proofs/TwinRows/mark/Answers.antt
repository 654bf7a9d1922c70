use native.Mathlib.Omega.{arith}
use mathlib.Core.Path.{◌∙◌}
use Rattle.base.proofs.Arrays.{pass_start}
use Rattle.twins.proofs.Marking.{marked_turn, marked_end, differ_node}
use Rattle.twins.proofs.TwinRows.mark.Goals as goal

pub loop-c-init : goal.loop-c-init
loop-c-init g c = pass_start _ _ _ _

pub loop-c-preserved : goal.loop-c-preserved
loop-c-preserved g c = marked_turn _ _ c.loop-c.invariant (omega (arith, c.loop-c.invariant.size, c.loop-c-test.true))
    (c.can_differ.ensures ∙ differ_node _ _ _ _ c.from.ensures)

pub returns : goal.returns
returns g c = marked_end _ _ c.loop-c.invariant (omega (arith, c.loop-c.invariant.size, c.loop-c-test.false))
