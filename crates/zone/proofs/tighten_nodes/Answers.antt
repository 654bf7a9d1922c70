use native.Mathlib.Omega.{arith}
use lib.Seq.{take_all}
use Rattle.zone.proofs.Nearer.{lowering_start, lowering_asks, lowering_turn}
use Rattle.zone.proofs.tighten_nodes.Goals as goal

pub loop-j-init : goal.loop-j-init
loop-j-init c = lowering_start _ _ _ _

pub bounds-d-k : goal.bounds-d-k
bounds-d-k c = (lowering_asks c.requires c.loop-j.invariant c.loop-j-test.true c.from-j.ensures).0

pub bounds-d-from : goal.bounds-d-from
bounds-d-from c = (lowering_asks c.requires c.loop-j.invariant c.loop-j-test.true c.from-j.ensures).1

pub overflow_add-p : goal.overflow_add-p
overflow_add-p c =
    let asks = lowering_asks c.requires c.loop-j.invariant c.loop-j-test.true c.from-j.ensures in
    omega (arith, c.requires.p_fits, asks.3)

pub overflow_sub-p : goal.overflow_sub-p
overflow_sub-p c = (lowering_asks c.requires c.loop-j.invariant c.loop-j-test.true c.from-j.ensures).2

pub bounds-d-k-in-loop-j : goal.bounds-d-k-in-loop-j
bounds-d-k-in-loop-j c = (lowering_asks c.requires c.loop-j.invariant c.loop-j-test.true c.from-j.ensures).0

pub loop-j-preserved : goal.loop-j-preserved
loop-j-preserved c = lowering_turn c.requires c.loop-j.invariant c.loop-j-test.true c.from-j.ensures c.min.ensures

pub returns : goal.returns
returns c = rw (take_all c.loop-j.j-index c.args.nodes.now c.loop-j-test.false) at c.loop-j.invariant
