use borrow.Author.Rules.{rules}
use native.Mathlib.Omega.{arith}
use mathlib.Core.Path.{refl, sym, ◌∙◌}
use Rattle.conditions.proofs.Meeting.{ends_none}
use Rattle.search.proofs.Levels.{ready_by, level_start, level_end, level_asks, turn_down, turn_barren, turn_shut, turn_ends}
use Rattle.search.proofs.Levels.{last_ends, last_stays, order_four, search_is}
use Rattle.search.proofs.broken.Goals as goal
use Rattle.search.proofs.broken.Goals.{else-choose, else-choose-2, else-choose-3, then-choose+else-two-test, then-choose-2+else-three-test, then-choose-3+else-four-test}

pub weigh-requires : goal.weigh-requires
weigh-requires g c = (search rules, c.requires)

pub offset_bounds-k-order : goal.offset_bounds-k-order
offset_bounds-k-order g c = omega (arith, (order_four _ c.order_by-order.ensures).below 0 (omega arith))

pub bounds-k-order : goal.bounds-k-order
bounds-k-order g c = (order_four _ c.order_by-order.ensures).below 0 (omega arith)

pub offset_bounds-k-order-2 : goal.offset_bounds-k-order-2
offset_bounds-k-order-2 g c = omega (arith, (order_four _ c.order_by-order.ensures).below 1 (omega arith))

pub bounds-k-order-2 : goal.bounds-k-order-2
bounds-k-order-2 g c = (order_four _ c.order_by-order.ensures).below 1 (omega arith)

pub offset_bounds-k-order-3 : goal.offset_bounds-k-order-3
offset_bounds-k-order-3 g c = omega (arith, (order_four _ c.order_by-order.ensures).below 2 (omega arith))

pub bounds-k-order-3 : goal.bounds-k-order-3
bounds-k-order-3 g c = (order_four _ c.order_by-order.ensures).below 2 (omega arith)

pub offset_bounds-k-order-4 : goal.offset_bounds-k-order-4
offset_bounds-k-order-4 g c = omega (arith, (order_four _ c.order_by-order.ensures).below 3 (omega arith))

pub bounds-k-order-4 : goal.bounds-k-order-4
bounds-k-order-4 g c = (order_four _ c.order_by-order.ensures).below 3 (omega arith)

pub one-init : goal.one-init
one-init g c =
    level_start (ready_by _ c.requires.choices c.order_by-order.ensures) 0 (omega arith)
    refl
    (λ y e. sym (search_is _ _ _ _ c.weigh.ensures c.order_by-order.ensures) ∙ e) refl

pub choose-requires : goal.choose-requires
choose-requires g c = (search rules, level_asks c.one.invariant c.as_slice-one.ensures _ c.one-test.true)

pub two-init : goal.two-init
two-init g c =
    turn_down c.one.invariant c.as_slice-one.ensures _ c.one-test.true _ c.choose.ensures
    (omega arith) c.if-choose.true

pub choose-requires-in-two : goal.choose-requires-in-two
choose-requires-in-two g c = (search rules, level_asks c.two.invariant c.as_slice-two.ensures _ c.two-test.true)

pub three-init : goal.three-init
three-init g c =
    turn_down c.two.invariant c.as_slice-two.ensures _ c.two-test.true _ c.choose-in-two.ensures
    (omega arith) c.if-choose-2.true

pub choose-requires-in-three : goal.choose-requires-in-three
choose-requires-in-three g c = (search rules, level_asks c.three.invariant c.as_slice-three.ensures _ c.three-test.true)

pub four-init : goal.four-init
four-init g c = (
  refl,
  turn_down c.three.invariant c.as_slice-three.ensures _ c.three-test.true _ c.choose-in-three.ensures
      (omega arith) c.if-choose-3.true,
)

pub constrain-requires : goal.constrain-requires
constrain-requires g c = (
  search rules,
  rw c.four.invariant.0 (level_asks c.four.invariant.1 c.as_slice-four.ensures _ c.four-test.true).way,
)

pub four-preserved : goal.four-preserved
four-preserved g c =
    let (same, left) = c.four.invariant in
    let told = c.constrain.ensures in (
      last_stays _ _ c.order_by-order.result c.args.k.now told.answer told.zone c.if-constrain.false ∙ same,
      turn_shut left c.as_slice-four.ensures _ c.four-test.true _
          (last_ends _ _ c.order_by-order.result c.args.k.now (rw same at told.answer) (rw same at told.zone)) c.if-constrain.false refl,
    )

pub three-preserved : goal.three-preserved
three-preserved g c = elim c.if-choose-3.branch [
  | then-choose-3+else-four-test s ↦
      turn_barren c.three.invariant c.as_slice-three.ensures _ c.three-test.true _ c.choose-in-three.ensures
      s.if-choose-3.true s.four.invariant.1 c.as_slice-four.ensures s.four-test.false s.found-is
  | else-choose-3 s ↦
      turn_shut c.three.invariant c.as_slice-three.ensures _ c.three-test.true _ c.choose-in-three.ensures
      s.if-choose-3.false s.found-is
]

pub two-preserved : goal.two-preserved
two-preserved g c = elim c.if-choose-2.branch [
  | then-choose-2+else-three-test s ↦
      turn_barren c.two.invariant c.as_slice-two.ensures _ c.two-test.true _ c.choose-in-two.ensures
      s.if-choose-2.true s.three.invariant c.as_slice-three.ensures s.three-test.false s.found-is
  | else-choose-2 s ↦
      turn_shut c.two.invariant c.as_slice-two.ensures _ c.two-test.true _ c.choose-in-two.ensures
      s.if-choose-2.false s.found-is
]

pub one-preserved : goal.one-preserved
one-preserved g c = elim c.if-choose.branch [
  | then-choose+else-two-test s ↦
      turn_barren c.one.invariant c.as_slice-one.ensures _ c.one-test.true _ c.choose.ensures
      s.if-choose.true s.two.invariant c.as_slice-two.ensures s.two-test.false s.found-is
  | else-choose s ↦
      turn_shut c.one.invariant c.as_slice-one.ensures _ c.one-test.true _ c.choose.ensures
      s.if-choose.false s.found-is
]

pub returns-after-one : goal.returns-after-one
returns-after-one g c =
    rw c.one.invariant.not_yet
    (ends_none _ (sym (search_is _ _ _ _ c.weigh.ensures c.order_by-order.ensures)
    ∙ level_end c.one.invariant c.as_slice-one.ensures c.one-test.false))

pub returns-then-constrain : goal.returns-then-constrain
returns-then-constrain g c =
    let (same, left) = c.four.invariant in
    let told = c.constrain.ensures in
    turn_ends left c.as_slice-four.ensures _ c.four-test.true _
    (last_ends _ _ c.order_by-order.result c.args.k.now (rw same at told.answer) (rw same at told.zone)) refl c.if-constrain.true
