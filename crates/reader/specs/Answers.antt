-- What the code's answers are for what reading gives: the record of a job, or a refusal with document 01's number and position.
use Rattle.std.specs.Prelude.{Result, Ok, Err}
use Rattle.job.specs.declared.Job.{Job}
use Rattle.job.specs.Meaning.{record_of}
use Rattle.layout.specs.declared.Refusal.{Refusal}
use Rattle.layout.specs.Faults.{refusal_of}
use Rattle.layout.specs.Reading.{Reading, accepted, refused}

abbrev pub decoded_of : Reading → Result Job Refusal
decoded_of (accepted j) = Ok (record_of j)
decoded_of (refused n at) = Err (refusal_of n at)
