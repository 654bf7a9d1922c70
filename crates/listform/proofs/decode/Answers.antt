-- `listform::decode` meets its contract: what is read of the bytes from a place on, for each of two lent slices. Assumes nothing.
use mathlib.Core.Path.{◌≡◌, refl}
use mathlib.Core.List.{List}
use Prim.Native.Nat.{ℕ, ◌-◌, ◌*◌}
use native.Mathlib.Omega.{arith}
use lib.ListN.{length, take, drop, length-drop}
use lib.Seq.{take_all}
use Rattle.base.proofs.Arrays.{pass_start, front_turn, front_end}
use Rattle.listform.specs.Form.{bounds_in, comparisons_in}
use Rattle.listform.proofs.decode.Goals as goal

to_end : {A : Type 0} (k : ℕ) (l : List A) → take (length l - k) (drop k l) ≡ drop k l
to_end k l = take_all (length l - k) (drop k l) (omega (arith, length-drop k l))

pub loop-i-init : goal.loop-i-init
loop-i-init c = pass_start _ _ _ _

pub loop-i-preserved : goal.loop-i-preserved
loop-i-preserved c =
    front_turn c.loop-i.invariant (omega (arith, c.loop-i.invariant.size, c.loop-i-test.true))
    (rw (to_end (c.loop-i.i * 8) c.args.s.now) at c.first_bounds.ensures)

pub loop-i-2-init : goal.loop-i-2-init
loop-i-2-init c = pass_start _ _ _ _

pub loop-i-2-preserved : goal.loop-i-2-preserved
loop-i-2-preserved c =
    front_turn c.loop-i-2.invariant (omega (arith, c.loop-i-2.invariant.size, c.loop-i-2-test.true))
    (rw (to_end (c.loop-i-2.i * 7) _) at c.first_comparison.ensures)

pub returns-clause-bounds : goal.returns-clause-bounds
unfolding bounds_in
returns-clause-bounds c = front_end c.loop-i.invariant (omega (arith, c.loop-i.invariant.size, c.loop-i-test.false)) refl

pub returns-clause-list : goal.returns-clause-list
unfolding comparisons_in
returns-clause-list c =
    rw (to_end (length c.args.bounds.now * 8) c.args.s.now)
    at (front_end c.loop-i-2.invariant (omega (arith, c.loop-i-2.invariant.size, c.loop-i-2-test.false)) refl)
