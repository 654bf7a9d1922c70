-- `Progress::new` meets its contract. Assumes nothing.
use Rattle.commands.proofs.Starting.{start_held, start_is}
use Rattle.commands.proofs.Progress.new.Goals as goal

pub invariant_of-result : goal.invariant_of-result
invariant_of-result c = rw c.empty.ensures start_held

pub returns : goal.returns
returns c = rw c.empty.ensures (start_is _)
