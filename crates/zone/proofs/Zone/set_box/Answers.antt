use Prim.Native.Nat.{◌*◌, ◌≤◌}
use lib.ListN.{length}
use native.Mathlib.Omega.{arith}
use Rattle.zone.proofs.Rows.{rows_start, rows_turn}
use Rattle.zone.proofs.Turns.{box_end}
use Rattle.zone.proofs.Held.{box_in_array, box_is}
use Rattle.zone.proofs.Zone.set_box.Goals as goal

pub loop-i-init : goal.loop-i-init
loop-i-init g c = rows_start _ _ _

pub loop-i-preserved : goal.loop-i-preserved
loop-i-preserved g c = rows_turn c.loop-i.invariant (omega arith) c.set_row.ensures

pub invariant_of-self : goal.invariant_of-self
invariant_of-self g c =
    let u = c.requires in
    let room : length c.args.lo.now * 33 ≤ length c.self.inside.entries = omega (arith, u.room) in
    box_in_array _ u.bounds room u.few (box_end room u.few u.bounds c.loop-i.invariant (omega arith))

pub returns : goal.returns
returns g c =
    let u = c.requires in
    let room : length c.args.lo.now * 33 ≤ length c.self.inside.entries = omega (arith, u.room) in
    box_is _ u.bounds room u.few (box_end room u.few u.bounds c.loop-i.invariant (omega arith))
