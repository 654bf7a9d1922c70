-- Reading and writing are each other's inverse on the records that reading gives, and these stand for the well-formed jobs; deciding
-- says which of these are computable. Assumes nothing.
use mathlib.Core.Path.{◌≡◌, refl, sym, ap, ◌∙◌}
use mathlib.Core.Logic.{◌↔◌}
use mathlib.Core.List.{List, ◌++◌}
use Prim.Native.Nat.{ℕ, ◌≤◌}
use lib.ListN.{length, drop}
use lib.Dec.{T}
use mir.Facts.{and_yes}
use borrow.Author.Tests.{le-leb}
use Rattle.std.specs.Prelude.{Result, Ok, Err}
use Rattle.base.specs.Bytes.{Bytes}
use Rattle.base.proofs.Tests.{T-is}
use Rattle.model.specs.Tables as model
use Rattle.model.specs.WellFormed.{structured, limited, well_formed}
use Rattle.model.specs.Verdict.{kind_of, Determined, Apart, Evidence}
use Rattle.model.proofs.Theorems.{computable_is, not_computable_is}
use Rattle.job.specs.declared.Job.{Job}
use Rattle.job.specs.Record.{Tidy}
use Rattle.job.specs.Meaning.{meaning_of, record_of}
use Rattle.job.proofs.Tidy.{record_tidy}
use Rattle.layout.specs.declared.Refusal.{Refusal}
use Rattle.layout.specs.Reading.{read_of}
use Rattle.layout.proofs.Theorems as layout
use Rattle.reader.specs.Answers.{decoded_of}
use Rattle.databases.specs.declared.Database.{Database}
use Rattle.databases.specs.Databases.{no_database, database_of}
use Rattle.verdict.specs.Verdict.{HandsOut}
use Rattle.pobghine.specs.Records.{is_read, bytes_of, written_of, lent_after}
use Rattle.pobghine.specs.Deciding.{decision_of}
use Rattle.pobghine.proofs.Judged.{meaning_back, judged_is, is_judged, whole_is, again}

-- these are bytes, and reading them gives this record
abbrev pub ReadAs : List ℕ → Job → Type 0
ReadAs s r = Bytes s × (decoded_of (read_of s) ≡ Ok r)

-- a record that was read is judged to be one, and its bytes are those that were read
pub read_is : (s : List ℕ) (r : Job) → ReadAs s r → T (is_read r) × (bytes_of r ≡ s)
read_is s r (b, e) =
    let (j, a, f) = whole_is (read_of s) r e in
    let w = layout.read_formed s j a in
    rw (← f) (is_judged j w, rw (meaning_back j w) (layout.read_back s j b a))

-- what is written of a record that reading gives is read as that record again
pub written_read : (r : Job) → T (is_read r) → ReadAs (bytes_of r) r
written_read r t = (layout.written_bytes (meaning_of r) (judged_is r t).0, again r t)

-- so a record is refused under 12 exactly where no bytes are read as it
pub read_exactly : (r : Job) → T (is_read r) ↔ ((s : List ℕ) × ReadAs s r)
read_exactly r = (λ t. (bytes_of r, written_read r t), λ (s, x). (read_is s r x).0)

-- reading is one to one
pub read_once : (s t : List ℕ) (r : Job) → ReadAs s r → ReadAs t r → s ≡ t
read_once s t r x y = sym (read_is s r x).1 ∙ (read_is t r y).1

-- writing a record that was read gives its bytes again, in enough lent bytes
pub write_back : (s : List ℕ) (r : Job) → ReadAs s r → (old : List ℕ) → length s ≤ length old
    → (written_of r (length old) ≡ Ok (length s)) × (lent_after r old ≡ s ++ drop (length s) old)
unfolding written_of lent_after
write_back s r x old h =
    let (t, e) = read_is s r x in
    rw (T-is (is_read r) t, e, le-leb _ _ h) (refl, refl)

-- a record that was read means a well-formed job, and has zeros past each count
pub read_means : (s : List ℕ) (r : Job) → ReadAs s r → T (well_formed (meaning_of r)) × Tidy r
read_means s r x =
    let (w, e) = judged_is r (read_is s r x).0 in
    (w, rw e at (record_tidy (meaning_of r)))

-- every well-formed job is the meaning of a record that reading gives
pub every_job : (j : model.Job) → T (well_formed j) → (s : List ℕ) × (r : Job) × ReadAs s r × (meaning_of r ≡ j)
every_job j w = (bytes_of (record_of j), record_of j, written_read (record_of j) (is_judged j w), meaning_back j w)

-- ---- deciding

-- a job that was read is decided: the kind is the model's
pub decide_answers : (s : List ℕ) (r : Job) → ReadAs s r → decision_of r ≡ Ok (kind_of (meaning_of r))
unfolding decision_of
decide_answers s r x = rw (T-is (is_read r) (read_is s r x).0)

kind_said : (s : List ℕ) (r : Job) → ReadAs s r → (k : ℕ) → decision_of r ≡ Ok k ↔ kind_of (meaning_of r) ≡ k
kind_said s r x k = (
  λ e. ap kind_in (sym (decide_answers s r x) ∙ e),
  λ e. decide_answers s r x ∙ ap Ok e,
)
  where
    kind_in : Result ℕ Refusal → ℕ
    kind_in (Ok k) = k
    kind_in (Err e) = 0

module _ (s : List ℕ) (r : Job) (x : ReadAs s r) where
  structure : T (structured (meaning_of r))
  unfolding well_formed
  structure = (and_yes (structured (meaning_of r)) (limited (meaning_of r)) (read_means s r x).0).0

  -- kind 0 is said exactly where any two databases with the same extract rows have the same query rows
  pub decide_computable : decision_of r ≡ Ok 0 ↔ Determined (meaning_of r)
  decide_computable = (
    λ e. (computable_is (meaning_of r) structure).0 ((kind_said s r x 0).0 e),
    λ all. (kind_said s r x 0).1 ((computable_is (meaning_of r) structure).1 all),
  )

  -- and another exactly where two databases tell that it isn't so
  pub decide_not_computable : ¬ (decision_of r ≡ Ok 0) ↔ ((d : model.Database) × (f : model.Database) × Apart (meaning_of r) d f)
  decide_not_computable = (
    λ n. (not_computable_is (meaning_of r) structure).0 (λ e. n ((kind_said s r x 0).1 e)),
    λ a e. (not_computable_is (meaning_of r) structure).1 a ((kind_said s r x 0).0 e),
  )

  -- then the two that are handed out, whichever they are, tell it
  pub decide_evidence : (d f : Database) → HandsOut r.declared r.extract r.query d f → ¬ (decision_of r ≡ Ok 0)
      → Evidence (meaning_of r) (database_of (meaning_of r) d) (database_of (meaning_of r) f)
  decide_evidence d f p n = p.handed.with_others (λ e. n ((kind_said s r x 0).1 e))

  -- with kind 0 both have no row, and are zero throughout
  pub decide_empty : (d f : Database) → HandsOut r.declared r.extract r.query d f → decision_of r ≡ Ok 0 → (d ≡ no_database) × (f ≡ no_database)
  decide_empty d f p e = p.with_0 ((kind_said s r x 0).0 e)
