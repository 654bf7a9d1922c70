-- What deciding answers for any record (document 01, "The verdict"). What stands beside the kind is said of the verdict itself, where there
-- is one: the listing is `listing_record`, and of the two databases, the one thing that no definition decides with kinds 1 to 4, only
-- what document 01 asks of them is said, by `HandsOut`; with kind 0 they have no row and are zero throughout.
use Rattle.std.specs.Prelude.{cond, ℕ, Result, Ok, Err}
use Rattle.model.specs.Answers.{number_of_kind}
use Rattle.model.specs.Verdict.{kind_of}
use Rattle.job.specs.declared.Job.{Job}
use Rattle.job.specs.Meaning.{meaning_of}
use Rattle.layout.specs.declared.Refusal.{Refusal}
use Rattle.layout.specs.Faults.{refusal_of}
use Rattle.verdict.specs.declared.Verdict.{Verdict}
use Rattle.pobghine.specs.Records.{is_read}

-- 12, or the kind
unfoldable pub decision_of : Job → Result ℕ Refusal
decision_of r = cond (is_read r) (Ok (kind_of (meaning_of r))) (Err (refusal_of 12 0))

-- the number of a verdict's kind, or the refusal
abbrev pub kind_in : Result Verdict Refusal → Result ℕ Refusal
kind_in (Ok v) = Ok (number_of_kind v.kind)
kind_in (Err e) = Err e
