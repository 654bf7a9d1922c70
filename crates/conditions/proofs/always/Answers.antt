-- `conditions::always` meets its contract. Assumes nothing.
use Rattle.job.proofs.Defaults.{condition_is}
use Rattle.conditions.proofs.always.Goals as goal

pub returns : goal.returns
returns c = rw (condition_is c.default.result c.default.ensures)
