use Rattle.std.proofs.Common.{rules}
use Rattle.decide.proofs.Streams.{write_more}
use Rattle.decide.proofs.write_output.Goals as goal

pub loop-done-preserved-in-Ok : goal.loop-done-preserved-in-Ok
loop-done-preserved-in-Ok g c = (search rules, write_more _ _ _ _ _ _ c.loop-done.invariant.1 c.in-Ok.ensures.bytes)
