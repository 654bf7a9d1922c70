-- Which records reading gives (refusal 12), and what writing one answers and leaves.
use Rattle.std.specs.Prelude.{Bool, cond, ◌&&◌, List, ◌++◌, ℕ, length, drop, leb, Result, Ok, Err}
use Rattle.model.specs.WellFormed.{well_formed}
use Rattle.job.specs.declared.Job.{Job}
use Rattle.job.specs.Meaning.{meaning_of, record_of}
use Rattle.job.specs.Same.{same_job}
use Rattle.layout.specs.declared.Refusal.{Refusal}
use Rattle.layout.specs.Faults.{refusal_of}
use Rattle.layout.specs.Writing.{job_bytes}

-- It means a well-formed job, and is that job's record, with zeros past each count. The theorem read_exactly says that these are the ones.
unfoldable pub is_read : Job → Bool
is_read r = well_formed (meaning_of r) && same_job r (record_of (meaning_of r))

-- the bytes that a record is written as
abbrev pub bytes_of : Job → List ℕ
bytes_of r = job_bytes (meaning_of r)

-- 12, then 17 where fewer than n bytes are lent, else how many are written
unfoldable pub written_of : Job → ℕ → Result ℕ Refusal
written_of r n =
    cond (is_read r) (cond (leb (length (bytes_of r)) n) (Ok (length (bytes_of r))) (Err (refusal_of 17 0))) (Err (refusal_of 12 0))

-- the lent bytes afterwards: as they were, unless the job is written, and behind it
unfoldable pub lent_after : Job → List ℕ → List ℕ
lent_after r old = cond (is_read r) (cond (leb (length (bytes_of r)) (length old)) (bytes_of r ++ drop (length (bytes_of r)) old) old) old
