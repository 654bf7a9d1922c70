-- `writer::put_condition` meets its contract. Assumes nothing.
use Rattle.base.proofs.Bytes.{left_all, turn_room, turn_next, turn_none}
use Rattle.writer.specs.Parts.{condition_bytes}
use Rattle.writer.proofs.put_condition.Goals as goal

pub loop-c-init : goal.loop-c-init
unfolding condition_bytes
loop-c-init c = left_all c.requires

pub put_clause-requires : goal.put_clause-requires
put_clause-requires c = turn_room c.clauses-c-items.ensures c.loop-c.invariant _ c.loop-c-test.true

pub loop-c-preserved : goal.loop-c-preserved
loop-c-preserved c = turn_next c.clauses-c-items.ensures c.loop-c.invariant _ c.loop-c-test.true c.put_clause.ensures

pub returns : goal.returns
unfolding condition_bytes
returns c = turn_none c.clauses-c-items.ensures c.loop-c.invariant c.loop-c-test.false
