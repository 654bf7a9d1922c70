use native.Mathlib.Omega.{arith}
use mathlib.Core.Path.{◌∙◌}
use Rattle.twins.proofs.Twinned.{few_of, no_twins, first_room, first_more, first_all}
use Rattle.twins.proofs.TwinRows.first.Goals as goal

pub loop-column-init : goal.loop-column-init
loop-column-init c = no_twins c.default-t.result c.default-t.ensures

pub add-requires : goal.add-requires
add-requires c =
    first_room _ (few_of c.args.k.now c.columns-column-items.ensures c.requires) _ c.loop-column.invariant

pub loop-column-preserved : goal.loop-column-preserved
loop-column-preserved c =
    c.add.ensures
    ∙ first_more _ (few_of c.args.k.now c.columns-column-items.ensures c.requires) _ c.loop-column.invariant _ c.loop-column-test.true

pub returns : goal.returns
returns c =
    let all = first_all _ (few_of c.args.k.now c.columns-column-items.ensures c.requires) _ c.loop-column.invariant (omega (arith, c.loop-column-test.false)) in
    rw (← c.columns-column-items.ensures) all
