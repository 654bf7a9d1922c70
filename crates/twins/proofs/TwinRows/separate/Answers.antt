use native.Mathlib.Omega.{arith}
use borrow.Author.Rules.{rules}
use mathlib.Core.Path.{refl}
use Rattle.words.specs.declared.Op.TheVariants.{Less, More}
use Rattle.twins.specs.Pairs.{some_apart}
use Rattle.twins.proofs.Separating.{impose_asks, stays, found, less_apart, more_apart, none_apart, no_columns}
use Rattle.twins.proofs.TwinRows.separate.Goals as goal
use Rattle.twins.proofs.TwinRows.separate.Goals.{then-impose-via-then-impose, then-impose-via-else-impose+then-impose-2}

pub loop-c-init : goal.loop-c-init
unfolding some_apart
loop-c-init g c = (refl, refl)

pub impose-requires-else-impose : goal.impose-requires-else-impose
impose-requires-else-impose g c =
    let h = c.loop-c-test.true in
    let less = stays _ _ _ _ h c.from-in-loop-c.ensures c.loop-c.invariant.0 Less c.from.ensures (c.impose.ensures.answer, c.impose.ensures.zone)
    c.if-impose.false in
    (search rules, impose_asks _ _ _ _ h c.from-in-loop-c.ensures less.1 More c.from-in-loop-c-2.ensures c.requires.partners)

pub returns-then-impose : goal.returns-then-impose
returns-then-impose g c =
    let h = c.loop-c-test.true in
    elim c.then-impose.branch [
      | then-impose-via-then-impose w ↦
          let less = found _ _ _ _ h c.from-in-loop-c.ensures c.loop-c.invariant.0 Less c.from.ensures
          (c.impose.ensures.answer, c.impose.ensures.zone) w.if-impose.true in
          rw w.z-is (less_apart _ _ _ _ h c.loop-c.invariant.1 less)
      | then-impose-via-else-impose+then-impose-2 w ↦
          let less = stays _ _ _ _ h c.from-in-loop-c.ensures c.loop-c.invariant.0 Less c.from.ensures
          (c.impose.ensures.answer, c.impose.ensures.zone) w.if-impose.false in
          let more = found _ _ _ _ h c.from-in-loop-c.ensures less.1 More c.from-in-loop-c-2.ensures
          (w.impose-else-impose.ensures.answer, w.impose-else-impose.ensures.zone) w.if-impose-2.true in
          rw w.z-is (more_apart _ _ _ _ h c.loop-c.invariant.1 less.0 more)
    ]

pub loop-c-preserved : goal.loop-c-preserved
loop-c-preserved g c =
    let h = c.loop-c-test.true in
    let less = stays _ _ _ _ h c.from-in-loop-c.ensures c.loop-c.invariant.0 Less c.from.ensures (c.impose.ensures.answer, c.impose.ensures.zone)
    c.if-impose.false in
    let more = stays _ _ _ _ h c.from-in-loop-c.ensures less.1 More c.from-in-loop-c-2.ensures
    (c.impose-else-impose.ensures.answer, c.impose-else-impose.ensures.zone) c.if-impose-2.false in
    (more.1, none_apart _ _ _ _ h c.loop-c.invariant.1 less.0 more.0)

pub returns : goal.returns
returns g c =
    no_columns _ _ _ c.loop-c.c-index (omega (arith, c.loop-c-test.false)) c.loop-c.invariant.1 _
