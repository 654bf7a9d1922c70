-- What writing comes to, by what was found of the record and the lent bytes. Assumes nothing.
use mathlib.Core.Path.{◌≡◌, refl, sym, ap, ◌∙◌}
use mathlib.Core.Bool.{Bool, true, false, cond}
use mathlib.Core.List.{List, ◌++◌}
use Prim.Native.Nat.{ℕ, ◌<◌, ◌≤◌}
use native.Mathlib.Omega.{arith}
use lib.ListN.{length, take, drop}
use lib.Seq.{take-append_seam}
use lib.Dec.{leb}
use borrow.Author.Tests.{le-leb, lt-leb}
use Rattle.std.specs.Prelude.{Result, Ok, Err}
use Rattle.job.specs.declared.Job.{Job}
use Rattle.layout.specs.declared.Refusal.{Refusal}
use Rattle.layout.specs.Faults.{refusal_of}
use Rattle.pobghine.specs.Records.{is_read, bytes_of, written_of, lent_after}

-- n bytes, those of a record, stand at the start of b
module _ (r : Job) (b : List ℕ) (n : ℕ) (rest : List ℕ) (count : n ≡ length (bytes_of r)) (bytes : b ≡ bytes_of r ++ rest) where
  pub front : take n b ≡ bytes_of r
  front = rw (bytes, count) (take-append_seam (bytes_of r) rest)

-- what writing a record that is read again says of it
module _ (r : Job) {a : Result ℕ Refusal} (told : a ≡ cond (is_read r) (Ok (length (bytes_of r))) (Err (refusal_of 12 0))) where
  pub given : {n : ℕ} → a ≡ Ok n → (is_read r ≡ true) × (n ≡ length (bytes_of r))
  given {n} e = go (is_read r) (sym told ∙ e)
    where
      go : (b : Bool) → cond b (Ok (length (bytes_of r))) (Err (refusal_of 12 0)) ≡ Ok n → (b ≡ true) × (n ≡ length (bytes_of r))
      go true f = (refl, cc)
      go false f = let z : ◌≡◌ {A = ℕ} 0 1 = cc in absurd (omega arith)

  pub refused : {x : Refusal} → a ≡ Err x → (is_read r ≡ false) × (x ≡ refusal_of 12 0)
  refused {x} e = go (is_read r) (sym told ∙ e)
    where
      go : (b : Bool) → cond b (Ok (length (bytes_of r))) (Err (refusal_of 12 0)) ≡ Err x → (b ≡ false) × (x ≡ refusal_of 12 0)
      go true f = let z : ◌≡◌ {A = ℕ} 0 1 = cc in absurd (omega arith)
      go false f = (refl, cc)

module _ (r : Job) (old : List ℕ) where
  pub never_read : is_read r ≡ false → (Err (refusal_of 12 0) ≡ written_of r (length old)) × (old ≡ lent_after r old)
  unfolding written_of lent_after
  never_read e = rw e (refl, refl)

  module _ (given : is_read r ≡ true) (n : ℕ) (count : n ≡ length (bytes_of r)) where
    pub too_few : length old < n → (Err (refusal_of 17 0) ≡ written_of r (length old)) × (old ≡ lent_after r old)
    unfolding written_of lent_after
    too_few h = rw (given, ← count, lt-leb _ _ h) (refl, refl)

    pub enough : n ≤ length old → (new : List ℕ) → new ≡ bytes_of r ++ drop (length (bytes_of r)) old
        → (Ok n ≡ written_of r (length old)) × (new ≡ lent_after r old)
    unfolding written_of lent_after
    enough h new e =
        let t : leb (length (bytes_of r)) (length old) ≡ true = le-leb (length (bytes_of r)) (length old) (omega arith) in
        rw (given, t) (ap Ok count, e)
