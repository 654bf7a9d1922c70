use native.Mathlib.Omega.{arith}
use mathlib.Core.Path.{◌∙◌}
use lib.ListN.{take}
use Rattle.base.proofs.Places.{range_has}
use Rattle.zone.specs.Array.{zone_in}
use Rattle.zone.proofs.Turns.{Listed, listed_in, ends_fit, row_asks, row_turn, nodes_turn}
use Rattle.zone.proofs.Turns.{rows_asks, nodes_asks, nodes_listed, comes_nearer, ahead_start, ahead_next, ahead_turn, ahead_end}
use Rattle.zone.proofs.tighten.Goals as goal
use Rattle.zone.proofs.tighten.Goals.{then-lowered-gt3, else-lowered-gt3, then-n-count, else-n-count}

pub put_shorter-lowered-requires : goal.put_shorter-lowered-requires
put_shorter-lowered-requires c = rows_asks c.requires

pub put_shorter-count-requires : goal.put_shorter-count-requires
put_shorter-count-requires c = nodes_asks c.requires

pub loop-i-init : goal.loop-i-init
loop-i-init c = ahead_start c.requires c.put_shorter-lowered.ensures.numbers

pub bounds-d-row : goal.bounds-d-row
bounds-d-row c =
    let u = c.requires.asked in
    let x = ahead_next c.requires c.loop-i.invariant c.loop-i-test.true c.from-row.ensures in
    omega (arith, x.more, x.done.size, u.in_array.room, u.in_array.small, u.left_in)

pub overflow_add-p-in-loop-i : goal.overflow_add-p-in-loop-i
overflow_add-p-in-loop-i c =
    let x = ahead_next c.requires c.loop-i.invariant c.loop-i-test.true c.from-row.ensures in
    omega (arith, ends_fit c.requires x.done x.more, c.requires.asked.most_fits)

pub tighten_row-requires-clause-room : goal.tighten_row-requires-clause-room
tighten_row-requires-clause-room c =
    let u = c.requires.asked in
    let x = ahead_next c.requires c.loop-i.invariant c.loop-i-test.true c.from-row.ensures in (
      omega (arith, x.more, x.done.size, u.in_array.room, u.in_array.small),
      omega (arith, x.done.size, u.in_array.room, u.in_array.small, u.right_in),
    )

pub tighten_row-requires-clause-lowers : goal.tighten_row-requires-clause-lowers
tighten_row-requires-clause-lowers c =
    let u = c.requires in
    let x = ahead_next u c.loop-i.invariant c.loop-i-test.true c.from-row.ensures in
    row_asks u x.done x.more (λ j m. range_has c.args.n m) (comes_nearer u x.done x.more x.near)

pub tighten_nodes-requires : goal.tighten_nodes-requires
tighten_nodes-requires c =
    let u = c.requires in
    let x = ahead_next u c.loop-i.invariant c.loop-i-test.true c.from-row.ensures in
    let list : Listed (zone_in c.args.n c.args.d.now) c.args.n c.args.c (take c.if-lowered-gt3.count c.if-lowered-gt3.nodes) =
    elim c.if-lowered-gt3.branch [
      | then-lowered-gt3 w ↦ rw (w.nodes-is, w.count-is) (nodes_listed u w.put_shorter-count.ensures.numbers)
      | else-lowered-gt3 w ↦ absurd (omega (arith, c.if-n-count.false, w.count-is, u.asked.in_array.small))
    ] in
    row_asks u x.done x.more (listed_in list) (comes_nearer u x.done x.more x.near)

pub loop-i-preserved : goal.loop-i-preserved
loop-i-preserved c =
    let u = c.requires in
    let x = ahead_next u c.loop-i.invariant c.loop-i-test.true c.from-row.ensures in
    elim c.if-n-count.branch [
      | then-n-count w ↦ ahead_turn u _ x (row_turn u x.done x.more (w.d-is ∙ w.tighten_row.ensures))
      | else-n-count w ↦
          let list : Listed (zone_in c.args.n c.args.d.now) c.args.n c.args.c (take c.if-lowered-gt3.count c.if-lowered-gt3.nodes) =
          elim c.if-lowered-gt3.branch [
            | then-lowered-gt3 l ↦ rw (l.nodes-is, l.count-is) (nodes_listed u l.put_shorter-count.ensures.numbers)
            | else-lowered-gt3 l ↦ absurd (omega (arith, w.if-n-count.false, l.count-is, u.asked.in_array.small))
          ] in
          ahead_turn u _ x (nodes_turn u x.done x.more list (w.d-is ∙ w.tighten_nodes.ensures))
    ]

pub shape_of-d : goal.shape_of-d
shape_of-d c = c.loop-i.invariant.done.size

pub returns : goal.returns
returns c = ahead_end c.requires c.loop-i.invariant (omega (arith, c.loop-i-test.false))
