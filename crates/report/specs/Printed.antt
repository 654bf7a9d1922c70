-- What the deciding program prints for the bytes that it reads.
use Rattle.std.specs.Prelude.{List, ℕ, length, take, Result, Ok, Err}
use Rattle.base.specs.Lists.{tabulate}
use Rattle.model.specs.Tables as model
use Rattle.model.specs.Verdict.{columns, kind_of, listing_of}
use Rattle.job.specs.declared.Job.{Job}
use Rattle.layout.specs.Reading.{Reading, accepted, refused, read_of}
use Rattle.layout.specs.declared.Refusal.{Refusal}
use Rattle.layout.specs.Faults.{number_of_fault}
use Rattle.verdict.specs.Verdict.{listing_record}
use Rattle.pobghine.specs.Deciding.{decision_of}
use Rattle.report.specs.Text.{refusal_text, verdict_text}

-- of a job: its kind, and the listing of each declared column
abbrev pub job_text : model.Job → List ℕ
job_text j = verdict_text (kind_of j) (tabulate (length (columns j)) (listing_of j))

abbrev pub reading_text : Reading → List ℕ
reading_text (accepted j) = job_text j
reading_text (refused n at) = refusal_text n at

-- of any bytes: a refusal of reading, or the verdict
unfoldable pub printed : List ℕ → List ℕ
printed s = reading_text (read_of s)

-- ---- Of a record

abbrev pub decision_text : Result ℕ Refusal → List ℕ → List ℕ
decision_text (Ok kind) listing = verdict_text kind listing
decision_text (Err f) listing = refusal_text (number_of_fault f.fault) f.at

-- the listing is that of the declared columns alone
unfoldable pub record_text : Job → List ℕ
record_text r = decision_text (decision_of r) (take r.declared.width (listing_record r.declared r.extract r.query))
