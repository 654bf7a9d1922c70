use borrow.Author.Rules.{rules}
use native.Mathlib.Omega.{arith}
use mathlib.Core.Path.{ap, ◌∙◌}
use Rattle.words.proofs.Stored.{stored}
use Rattle.words.specs.Bias.{bias, biased}
use Rattle.solver.proofs.Bounds.{laying_start, laying_turn, box_bounds, box_size, box_is, words_are}
use Rattle.solver.proofs.set_bounds.Goals as goal

pub loop-i-init : goal.loop-i-init
loop-i-init g c = laying_start c.args.bounds.now

pub loop-i-preserved : goal.loop-i-preserved
loop-i-preserved g c =
    let lo = c.to_biased-arg-1.given in
    let hi = c.to_biased-arg-in-loop-i-1.given in
    laying_turn c.loop-i.invariant _ c.loop-i-test.true lo hi
    (c.to_biased.ensures ∙ ap (biased bias) (stored _ lo))
    (c.to_biased-in-loop-i.ensures ∙ ap (biased bias) (stored _ hi))

pub set_box-requires : goal.set_box-requires
set_box-requires g c =
    let size = box_size c.loop-i.invariant c.requires c.loop-i-test.false in
    (search rules, (box_bounds c.loop-i.invariant c.requires c.loop-i-test.false, (omega (arith, size, c.requires.room), omega (arith, size, c.requires.small))))

pub returns-clause-zone : goal.returns-clause-zone
returns-clause-zone g c = c.set_box.ensures ∙ box_is c.loop-i.invariant c.requires c.loop-i-test.false

pub returns-clause-words : goal.returns-clause-words
returns-clause-words g c = words_are c.loop-i.invariant c.requires c.loop-i-test.false
