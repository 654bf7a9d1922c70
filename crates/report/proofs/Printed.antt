-- What is printed, by way of the record that is read and of what is decided of it. Assumes nothing.
use mathlib.Core.Path.{◌≡◌, refl, sym, ap, ◌∙◌}
use mathlib.Core.List.{List, [], ◌∷◌, map}
use Prim.Native.Nat.{ℕ, zero, suc, ◌≤◌}
use lib.ListN.{length, take}
use lib.Dec.{T}
use Rattle.std.specs.Prelude.{Result, Ok, Err}
use Rattle.base.specs.Lists.{tabulate}
use Rattle.base.specs.Arrays.{padded}
use Rattle.base.proofs.Tests.{T-is}
use Rattle.base.proofs.Places.{tabulate_length}
use Rattle.base.proofs.Arrays.{take_padded}
use Rattle.model.specs.Tables as model
use Rattle.model.specs.WellFormed.{well_formed}
use Rattle.model.proofs.Formed.{well_formed_lem}
use Rattle.model.specs.Answers.{number_of_kind, number_of_held}
use Rattle.model.specs.Verdict.{columns}
use Rattle.job.specs.declared.Job.{Job}
use Rattle.job.specs.Meaning.{record_of}
use Rattle.layout.specs.declared.Refusal.{Refusal}
use Rattle.layout.specs.Faults.{number_of_fault}
use Rattle.layout.proofs.Faults.{read_numbered}
use Rattle.layout.specs.Reading.{Reading, accepted, refused, read_of}
use Rattle.layout.proofs.Theorems.{read_formed, read_enough}
use Rattle.reader.specs.Answers.{decoded_of}
use Rattle.verdict.specs.declared.Verdict.{Verdict}
use Rattle.verdict.specs.Verdict.{listing_record}
use Rattle.pobghine.specs.Records.{is_read}
use Rattle.pobghine.specs.Deciding.{decision_of, kind_in}
use Rattle.pobghine.proofs.Judged.{is_judged, meaning_back, whole_is}
use Rattle.report.specs.Text.{refusal_text, verdict_text}
use Rattle.report.proofs.Most.{job_most}
use Rattle.report.specs.Printed.{job_text, reading_text, printed, decision_text, record_text}

map_take : {A B : Type 0} (f : A → B) (n : ℕ) (l : List A) → map f (take n l) ≡ take n (map f l)
map_take f zero l = refl
map_take f (suc n) [] = refl
map_take f (suc n) (x ∷ l) = rw (map_take f n l)

-- ---- what is decided of a record
module _ (r : Job) {d : Result Verdict Refusal} (told : kind_in d ≡ decision_of r) where
  pub refused_record : {f : Refusal} → d ≡ Err f → refusal_text (number_of_fault f.fault) f.at ≡ record_text r
  unfolding record_text
  refused_record e = ap (λ x. decision_text x (take r.declared.width (listing_record r.declared r.extract r.query))) (ap kind_in (sym e) ∙ told)

  pub judged_record : {v : Verdict} → d ≡ Ok v → map number_of_held v.listing ≡ listing_record r.declared r.extract r.query
      → verdict_text (number_of_kind v.kind) (map number_of_held (take r.declared.width v.listing)) ≡ record_text r
  unfolding record_text
  judged_record {v} e listed =
      rw (map_take number_of_held r.declared.width v.listing, listed)
      (ap (λ x. decision_text x (take r.declared.width (listing_record r.declared r.extract r.query))) (ap kind_in (sym e) ∙ told))

-- ---- of the record of a job
row_width : (j : model.Job) → (record_of j).declared.width ≡ length (columns j)
unfolding record_of
row_width j = refl

listed_first : (f : ℕ → ℕ) (n w : ℕ) → take w (padded n 0 (tabulate w f)) ≡ tabulate w f
listed_first f n w = take_padded n 0 (tabulate w f) w (sym (tabulate_length w f))

record_job : (j : model.Job) → T (well_formed j) → record_text (record_of j) ≡ job_text j
unfolding record_text decision_of listing_record
record_job j w = rw (T-is (is_read (record_of j)) (is_judged j w), meaning_back j w, row_width j, listed_first _ 16 (length (columns j)))

-- ---- of bytes
abbrev answer_text : Result Job Refusal → List ℕ
answer_text (Ok r) = record_text r
answer_text (Err f) = refusal_text (number_of_fault f.fault) f.at

text_read : (s : List ℕ) → answer_text (decoded_of (read_of s)) ≡ printed s
unfolding printed
text_read s = go (read_of s) refl
  where
    go : (x : Reading) → read_of s ≡ x → answer_text (decoded_of x) ≡ reading_text x
    go (accepted j) e = record_job j (read_formed s j e)
    go (refused n at) e = ap (λ (m : ℕ). refusal_text m at) (read_numbered s e)

module _ (s : List ℕ) {d : Result Job Refusal} (is : d ≡ decoded_of (read_of s)) where
  pub refused_text : {f : Refusal} → d ≡ Err f → refusal_text (number_of_fault f.fault) f.at ≡ printed s
  refused_text e = ap answer_text (sym e ∙ is) ∙ text_read s

  pub whole_text : {r : Job} → d ≡ Ok r → record_text r ≡ printed s
  whole_text e = ap answer_text (sym e ∙ is) ∙ text_read s

  -- a record that was read has a text of at most 81 bytes, and at most 16 columns
  pub few_read : {r : Job} → d ≡ Ok r → (length (record_text r) ≤ 81) × (r.declared.width ≤ 16)
  few_read {r} e =
      let (j, a, f) = whole_is (read_of s) r (sym is ∙ e) in
      let w = read_formed s j a in
      rw (← f) (rw (record_job j w) (job_most j w), rw (row_width j) (well_formed_lem j w).limits.few_columns)

-- ---- the first 600 bytes tell what is printed
pub printed_enough : (s : List ℕ) → 600 ≤ length s → printed (take 600 s) ≡ printed s
unfolding printed
printed_enough s h = ap reading_text (read_enough s h)
