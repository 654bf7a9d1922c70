use mathlib.Core.Path.{ap}
use native.Mathlib.Omega.{arith}
use lib.ListN.{length, length-take}
use Rattle.solver.proofs.Coded.{list_next}
use Rattle.breaking.proofs.Filling.{put_start, put_turn}
use Rattle.breaking.proofs.Ways.set.Goals as goal
use Rattle.breaking.proofs.Ways.set.Goals.{in-Some, in_default}

pub loop-k-init : goal.loop-k-init
loop-k-init c = put_start _ _

pub put-requires : goal.put-requires
put-requires c = let k = c.args.c.now in omega (arith, ap length c.comparisons-k-items.ensures, length-take k.size k.comparisons)

pub put-requires-in-Some : goal.put-requires-in-Some
put-requires-in-Some c = let k = c.args.c.now in omega (arith, ap length c.comparisons-k-items.ensures, length-take k.size k.comparisons)

pub loop-k-preserved : goal.loop-k-preserved
loop-k-preserved c =
    let next = list_next _ _ c.loop-k-test.true in
    elim c.match-p.branch [
      | in-Some w ↦ put_turn c.loop-k.invariant _ next c.negations-p.ensures c.put.ensures.ways c.put.ensures.few
          (rw (w.self-is, w.in-Some.is) w.put-in-Some.ensures.ways) (rw w.self-is w.put-in-Some.ensures.few)
      | in_default w ↦ put_turn c.loop-k.invariant _ next c.negations-p.ensures c.put.ensures.ways c.put.ensures.few
          (rw (w.self-is, w.in_default.is)) (rw w.self-is (omega arith))
    ]

pub returns-clause-few : goal.returns-clause-few
returns-clause-few c = let k = c.args.c.now in omega (arith, ap length c.comparisons-k-items.ensures, length-take k.size k.comparisons)
