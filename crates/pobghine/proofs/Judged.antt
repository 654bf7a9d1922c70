-- The records that are judged to be reading's: those of well-formed jobs. Assumes nothing.
use mathlib.Core.Path.{◌≡◌, refl, sym, ap, ◌∙◌}
use mathlib.Core.Bool.{false}
use mathlib.Core.List.{List, ◌++◌}
use Prim.Native.Nat.{ℕ}
use native.Mathlib.Omega.{arith}
use lib.ListN.{length, take}
use lib.Dec.{T}
use mir.Facts.{and_yes}
use Rattle.std.specs.Prelude.{Result, Ok, Err}
use Rattle.base.proofs.Tests.{same_test, T-is}
use Rattle.model.specs.Tables as model
use Rattle.model.specs.WellFormed.{well_formed}
use Rattle.model.proofs.Formed.{well_formed_lem}
use Rattle.job.specs.declared.Job.{Job}
use Rattle.job.specs.Meaning.{meaning_of, record_of}
use Rattle.job.specs.Same.{same_job}
use Rattle.job.proofs.Meaning.{meaning_record}
use Rattle.job.proofs.Equal.{same_is, same_self}
use Rattle.layout.specs.declared.Refusal.{Refusal}
use Rattle.layout.specs.Reading.{Reading, accepted, refused, read_of}
use Rattle.layout.proofs.Theorems as layout
use Rattle.reader.specs.Answers.{decoded_of}
use Rattle.pobghine.specs.Records.{is_read, bytes_of}
use Rattle.pobghine.proofs.Outcomes.{front}

pub meaning_back : (j : model.Job) → T (well_formed j) → meaning_of (record_of j) ≡ j
meaning_back j w = meaning_record j (well_formed_lem j w).limits.few_tables

pub judged_is : (r : Job) → T (is_read r) → T (well_formed (meaning_of r)) × (record_of (meaning_of r) ≡ r)
unfolding is_read
judged_is r t = let p = and_yes (well_formed (meaning_of r)) _ t in (p.0, sym (same_is r _ p.1))

pub is_judged : (j : model.Job) → T (well_formed j) → T (is_read (record_of j))
unfolding is_read
is_judged j w = rw (meaning_back j w, same_self (record_of j), T-is (well_formed j) w) tt

pub whole_is : (x : Reading) (r : Job) → decoded_of x ≡ Ok r → (j : model.Job) × (x ≡ accepted j) × (record_of j ≡ r)
whole_is (accepted j) r e = (j, refl, cc)
whole_is (refused n at) r e = let z : ◌≡◌ {A = ℕ} 0 1 = cc in absurd (omega arith)

-- ---- by writing a record and reading what was written
pub again : (r : Job) → T (is_read r) → decoded_of (read_of (bytes_of r)) ≡ Ok r
again r t =
    let (w, e) = judged_is r t in
    rw (layout.read_written (meaning_of r) w) (ap Ok e)

-- the record's bytes are the first n of s, and d is read of them
module _ (r : Job) {s : List ℕ} (rest : List ℕ) {n : ℕ} (count : n ≡ length (bytes_of r)) (bytes : s ≡ bytes_of r ++ rest)
    {d : Result Job Refusal} (read : d ≡ decoded_of (read_of (take n s))) where
  e : d ≡ decoded_of (read_of (bytes_of r))
  e = read ∙ ap (λ l. decoded_of (read_of l)) (front r s n rest count bytes)

  pub judged_whole : {b : Job} → d ≡ Ok b → same_job r b ≡ is_read r
  judged_whole {b} w = same_test (same_job r b) (is_read r) to from
    where
      to : T (same_job r b) → T (is_read r)
      to t =
          let (j, a, g) = whole_is (read_of (bytes_of r)) b (sym e ∙ w) in
          rw (same_is r b t) (rw g at (is_judged j (layout.read_formed (bytes_of r) j a)))

      from : T (is_read r) → T (same_job r b)
      from t =
          let both : ◌≡◌ {A = Result Job Refusal} (Ok b) (Ok r) = sym w ∙ e ∙ again r t in
          let f : b ≡ r = cc in rw (f, same_self r) tt

  pub judged_refused : {f : Refusal} → d ≡ Err f → false ≡ is_read r
  judged_refused {f} w = same_test false (is_read r) (λ t. absurd t) (λ t. clash t)
    where
      clash : T (is_read r) → ⊥
      clash t =
          let both : ◌≡◌ {A = Result Job Refusal} (Err f) (Ok r) = sym w ∙ e ∙ again r t in
          let z : ◌≡◌ {A = ℕ} 0 1 = cc in omega arith
