-- What holds of reading and writing, for every list of bytes. Assumes nothing.
use mathlib.Core.Path.{◌≡◌, sym, ◌∙◌}
use mathlib.Core.List.{List}
use Prim.Native.Nat.{ℕ, ◌≤◌}
use lib.ListN.{length, take}
use lib.Dec.{T}
use Rattle.layout.specs.Sound.{Sound}
use Rattle.base.specs.Bytes.{Bytes}
use Rattle.model.specs.Tables.{Job}
use Rattle.model.specs.WellFormed.{well_formed}
use Rattle.layout.specs.Reading.{accepted, read_of}
use Rattle.layout.specs.Writing.{job_bytes}
use Rattle.layout.proofs.Keeps.{start_sound, step_sound}
use Rattle.layout.proofs.Ends.{read_ended, sound_end}
use Rattle.layout.proofs.Back.{written_back}
use Rattle.layout.proofs.Complete as complete
use Rattle.layout.proofs.Enough as enough

-- a job that is accepted is well formed
pub read_formed : (s : List ℕ) (j : Job) → read_of s ≡ accepted j → T (well_formed j)
read_formed s j r =
    let d = read_ended (λ at st. Sound st) s j (step_sound s) (λ t. start_sound) r in
    rw (← d.same) (sound_end d.final d.kept d.closing)

-- and its bytes are those that were read
pub read_back : (s : List ℕ) (j : Job) → Bytes s → read_of s ≡ accepted j → job_bytes j ≡ s
read_back s j b r = written_back s j b r

-- so each job is written in one way
pub one_writing : (s t : List ℕ) (j : Job) → Bytes s → Bytes t → read_of s ≡ accepted j → read_of t ≡ accepted j → s ≡ t
one_writing s t j b c r q = sym (read_back s j b r) ∙ read_back t j c q

-- every well-formed job is read from its bytes, so that no definition of reading which refuses more would do
pub read_written : (j : Job) → T (well_formed j) → read_of (job_bytes j) ≡ accepted j
read_written j w = complete.read_written j w

pub written_bytes : (j : Job) → T (well_formed j) → Bytes (job_bytes j)
written_bytes j w = complete.written_bytes j w

-- the first 600 bytes tell how all of them are read, the refusal and its position too
pub read_enough : (s : List ℕ) → 600 ≤ length s → read_of (take 600 s) ≡ read_of s
read_enough s h = enough.read_enough s h
