-- What has been read at the start. Assumes nothing.
use mathlib.Core.Path.{◌≡◌, refl}
use mathlib.Core.Bool.{false}
use mathlib.Core.List.{List}
use Prim.Native.Nat.{ℕ}
use Rattle.job.specs.Record.{no_job}
use Rattle.job.specs.Meaning.{expression_of, expression_record, job_of, record_of}
use Rattle.layout.specs.Reading.{at_start}
use Rattle.layout.proofs.Keeps.{start_sound}
use Rattle.commands.specs.Reached.{started, state_of, Held}

pub start_state : state_of 0 false no_job ≡ at_start
unfolding job_of expression_of
start_state = refl

pub start_held : Held no_job (state_of 0 false no_job)
unfolding job_of expression_of record_of expression_record
start_held = record { laid = refl; sound = start_sound }

pub start_is : (s : List ℕ) → record { bytes = s; at = 4; state = state_of 0 false no_job } ≡ started s
start_is s = rw start_state
