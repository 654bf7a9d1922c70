use native.Mathlib.Omega.{arith}
use mathlib.Core.Path.{◌≡◌, ◌∙◌}
use lib.Dec.{eqb}
use borrow.Author.Rules.{rules}
use Rattle.base.specs.Lists.{any_of}
use Rattle.job.specs.Record.{no_column}
use Rattle.twins.proofs.Twinned.{few_of, both_begin, both_room, both_more, both_end}
use Rattle.twins.proofs.TwinRows.of.Goals as goal
use Rattle.twins.proofs.TwinRows.of.Goals.{then-contains, else-contains}

pub loop-c-init : goal.loop-c-init
loop-c-init c = both_begin _ _ (rw (← c.columns-column-items.ensures) at c.first-t.ensures)

pub overflow_cast-t-else-contains : goal.overflow_cast-t-else-contains
overflow_cast-t-else-contains c =
    omega (arith, both_room _ _ (few_of c.args.k.now c.columns-column-items.ensures c.requires) c.loop-c-test.true c.loop-c.invariant)

pub add-requires : goal.add-requires
add-requires c =
    both_room _ _ (few_of c.args.k.now c.columns-column-items.ensures c.requires) c.loop-c-test.true c.loop-c.invariant

pub loop-c-preserved : goal.loop-c-preserved
loop-c-preserved c =
    let more = both_more _ _ (few_of c.args.k.now c.columns-column-items.ensures c.requires) c.loop-c-test.true c.loop-c.invariant no_column in
    let told : c.contains.result ≡ any_of (eqb c.loop-c.c) c.args.stored.now = search rules in
    elim c.if-contains.branch [
      | then-contains w ↦ w.t-is ∙ (rw (← told, w.if-contains.true) at more)
      | else-contains w ↦ w.t-is ∙ w.add.ensures ∙ (rw (← told, w.if-contains.false) at more)
    ]

pub returns : goal.returns
returns c = rw (← c.columns-column-items.ensures) (both_end _ _ c.loop-c.invariant (omega (arith, c.loop-c.auto.c-end, c.loop-c-test.false)))
