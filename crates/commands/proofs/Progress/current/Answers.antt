-- `Progress::current` meets its contract. Assumes nothing.
use Rattle.commands.proofs.Keeping.{current_at, current_within}
use Rattle.commands.proofs.Progress.current.Goals as goal

pub returns-then-self : goal.returns-then-self
returns-then-self c = record {
  laid = rw (← c.self.view_is) (current_at c.self.invariant _ c.if-self.true);
  within = current_within c.self.invariant _ c.if-self.true;
}

pub returns-else-self : goal.returns-else-self
returns-else-self c = record {
  laid = rw (← c.self.view_is) (current_at c.self.invariant _ c.if-self.false);
  within = current_within c.self.invariant _ c.if-self.false;
}
