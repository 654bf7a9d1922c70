-- What reading has come to: where it stands, what has been read, and the record that holds it.
use Rattle.std.specs.Prelude.{◌≡◌, Bool, List, ℕ}
use Rattle.job.specs.declared.Job.{Job}
use Rattle.job.specs.Meaning.{meaning_of, record_of}
use Rattle.layout.specs.Reading.{State, at_start, Step, step_of}
use Rattle.layout.specs.Sound.{Sound}

-- the bytes, where the next command is due in them, and what has been read
pub record Reached : Type 0 where
  pub bytes : List ℕ
  pub at : ℕ
  pub state : State

-- nothing but the start
abbrev pub started : List ℕ → Reached
started s = record { bytes = s; at = 4; state = at_start }

-- what the definition says of the command that is due
abbrev pub step_at : Reached → Step
step_at p = step_of p.bytes p.at p.state

-- what has been read, by the byte of the last command, whether the query has begun, and the record
abbrev pub state_of : ℕ → Bool → Job → State
state_of b q r = record { last = b; in_query = q; job = meaning_of r }

-- the record is a job's, and what has been read is well formed as far as it goes
pub record Held (r : Job) (st : State) : Type 0 where
  pub laid : r ≡ record_of st.job
  pub sound : Sound st
