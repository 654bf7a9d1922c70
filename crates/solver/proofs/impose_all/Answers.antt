use borrow.Author.Rules.{rules}
use Rattle.solver.proofs.Coded.{list_done, list_next}
use Rattle.solver.proofs.Progress.{at_start, at_end, next_fits, stops, goes_on}
use Rattle.solver.proofs.impose_all.Goals as goal

pub loop-k-init : goal.loop-k-init
loop-k-init g c = at_start _ _

pub impose-requires : goal.impose-requires
impose-requires g c = (search rules, next_fits c.loop-k.invariant (list_next c.args.list.now _ c.loop-k-test.true) c.requires)

pub returns-then-not-impose : goal.returns-then-not-impose
returns-then-not-impose g c =
    let next = list_next c.args.list.now _ c.loop-k-test.true in
    let r = stops c.loop-k.invariant next c.impose.ensures.answer c.impose.ensures.zone c.if-not-impose.true in
    record { answer = r.0; zone = r.1 }

pub loop-k-preserved : goal.loop-k-preserved
loop-k-preserved g c =
    let next = list_next c.args.list.now _ c.loop-k-test.true in
    goes_on c.loop-k.invariant next c.impose.ensures.answer c.impose.ensures.zone c.if-not-impose.false

pub returns : goal.returns
returns g c = let r = at_end c.loop-k.invariant (list_done c.args.list.now c.loop-k-test.false) in record { answer = r.0; zone = r.1 }
