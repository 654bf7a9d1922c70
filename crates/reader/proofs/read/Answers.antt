-- `reader::read` meets its contract. Assumes nothing.
use mathlib.Core.Path.{sym, ◌∙◌}
use Rattle.reader.proofs.Turns.{begun, broken_off, again}
use Rattle.reader.proofs.read.Goals as goal

pub loop-init : goal.loop-init
loop-init c = rw c.new-p.ensures (begun _ (sym c.is_start.ensures ∙ c.if-not-is_start.false))

pub returns-in_default : goal.returns-in_default
returns-in_default c =
    broken_off _ _ _ c.loop.invariant c.loop-test.true _ _ (rw c.unwrap_err.ensures at c.step-took.ensures)

pub loop-preserved : goal.loop-preserved
loop-preserved c =
    again _ _ _ c.loop.invariant c.loop-test.true _ _ (rw c.in-Ok.is at c.step-took.ensures) c.if-ended.false
