-- `Progress::width` meets its contract. Assumes nothing.
use Rattle.commands.proofs.Keeping.{width_held, width_small}
use Rattle.commands.proofs.Progress.width.Goals as goal

pub returns : goal.returns
returns c = record { declared = rw (← c.self.view_is) (width_held c.self.invariant); within = width_small c.self.invariant }
