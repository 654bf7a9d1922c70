use Rattle.std.proofs.Common.{rules}
use Rattle.decide.proofs.Streams.{read_more}
use Rattle.decide.proofs.read_input.Goals as goal

pub loop-done-preserved-in-Ok : goal.loop-done-preserved-in-Ok
loop-done-preserved-in-Ok g c =
    let read = read_more _ _ _ _ _ _ _ _ c.loop-done.invariant.1 c.in-Ok.ensures.bound.0 c.loop-done.invariant.2 c.in-Ok.ensures.bytes.0 in
    (search rules, search rules, read)
