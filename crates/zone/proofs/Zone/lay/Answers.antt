use mathlib.Core.Path.{◌∙◌, ap}
use native.Mathlib.Omega.{arith}
use Rattle.zone.specs.Array.{zone_in, laid}
use Rattle.zone.proofs.Held.{nodes_are}
use Rattle.zone.proofs.Rows.{rows_start, rows_turn, rows_end}
use Rattle.zone.proofs.Zone.lay.Goals as goal

pub loop-i-init : goal.loop-i-init
loop-i-init g c = rows_start _ _ _

pub lay_row-requires : goal.lay_row-requires
lay_row-requires g c =
    let u = c.self.invariant in (
      omega (arith, c.loop-i.invariant.size, nodes_are u c.self.view_is, c.requires, u.small, c.loop-i-test.true),
      omega (arith, u.room, u.small, c.loop-i-test.true),
    )

pub loop-i-preserved : goal.loop-i-preserved
loop-i-preserved g c = rows_turn c.loop-i.invariant c.loop-i-test.true c.lay_row.ensures

pub returns : goal.returns
unfolding zone_in
returns g c =
    let u = c.self.invariant in
    rows_end c.loop-i.invariant (omega (arith, c.loop-i-test.false)) u.small (omega (arith, nodes_are u c.self.view_is, c.requires))
    ∙ ap (laid _) c.self.view_is
