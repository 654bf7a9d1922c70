use native.Mathlib.Omega.{arith}
use mathlib.Core.Path.{ap, ◌∙◌}
use Prim.Native.Nat.{◌<◌}
use lib.IntN.{ℤ, pos}
use Rattle.base.proofs.Arrays.{pass_start, front_turn, front_size, front_slice}
use Rattle.words.proofs.Stored.{stored}
use Rattle.model.specs.Tables.{value}
use Rattle.twins.proofs.TwinRows.second_row.Goals as goal

pub loop-c-init : goal.loop-c-init
loop-c-init c = pass_start _ _ _ _

pub loop-c-preserved : goal.loop-c-preserved
loop-c-preserved c =
    let more : c.loop-c.c < c.args.n = omega (arith, c.loop-c-test.true, front_size {A = ℤ} (pos 0) c.requires.few) in
    front_turn c.loop-c.invariant more (stored _ (omega arith) ∙ ap (value c.args.row) c.from.ensures)

pub returns : goal.returns
returns c = front_slice (pos 0) c.requires.few c.loop-c.invariant (omega (arith, c.loop-c-test.false, front_size {A = ℤ} (pos 0) c.requires.few))
