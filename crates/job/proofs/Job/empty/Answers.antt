-- The empty job is zeros throughout. Assumes nothing.
use mathlib.Core.Path.{refl}
use Rattle.job.proofs.Defaults.{job_is}
use Rattle.job.proofs.Job.empty.Goals as goal

pub returns : goal.returns
returns c = rw (job_is c.default.result c.default.ensures) refl
