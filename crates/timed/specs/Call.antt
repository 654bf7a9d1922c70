-- What the exported functions take and answer.
use Rattle.std.specs.Prelude.{List, ℕ, Result, Ok, Err}
use Rattle.zone.specs.declared.Constraint.{Constraint}
use Rattle.job.specs.declared.Job.{Job}
use Rattle.layout.specs.declared.Refusal.{Refusal}
use Rattle.layout.specs.Reading.{read_of}
use Rattle.reader.specs.Answers.{decoded_of}
use Rattle.pobghine.specs.Deciding.{decision_of}

-- a constraint that was passed in parts
abbrev pub passed : ℕ → ℕ → ℕ → Constraint
passed left right most = record { left = left; right = right; most = most }

-- a number for a job that reading accepts, else 255
abbrev pub if_whole : Result Job Refusal → (Job → ℕ) → ℕ
if_whole (Ok r) f = f r
if_whole (Err e) f = 255

-- a kind's number, or 255
abbrev pub kind_or_255 : Result ℕ Refusal → ℕ
kind_or_255 (Ok k) = k
kind_or_255 (Err e) = 255

abbrev pub read_number : List ℕ → ℕ
read_number s = if_whole (decoded_of (read_of s)) (λ r. 0)

abbrev pub kind_number : List ℕ → ℕ
kind_number s = if_whole (decoded_of (read_of s)) (λ r. kind_or_255 (decision_of r))
