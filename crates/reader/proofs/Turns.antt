-- The loop that takes commands one by one: what holds between two of them, and what each way out gives. Assumes nothing.
use mathlib.Core.Path.{◌≡◌, refl, sym, ap, ◌∙◌}
use mathlib.Core.Bool.{Bool, true, false}
use mathlib.Core.List.{List}
use Prim.Native.Nat.{ℕ, zero, suc, ◌+◌, ◌-◌, ◌≤◌, ◌<◌}
use native.Mathlib.Numerals.{sub-one}
use native.Mathlib.Omega.{arith}
use lib.ListN.{length}
use lib.Dec.{eqb}
use Rattle.std.specs.Prelude.{Result, Ok, Err}
use Rattle.layout.specs.declared.Refusal.{Refusal}
use Rattle.layout.specs.Faults.{refusal_of}
use Rattle.job.specs.declared.Job.{Job}
use Rattle.layout.specs.Reading.{State, Step, next, stop, step_of, onward, read_from, starts, read_of}
use Rattle.commands.specs.Reached.{Reached, started, step_at}
use Rattle.commands.specs.Uses.{stepped_of}
use Rattle.reader.specs.Answers.{decoded_of}

-- after i commands: what is left gives what the whole gives
pub record Midway (s : List ℕ) (i : ℕ) (p : Reached) : Type 0 where
  pub same : p.bytes ≡ s
  pub left : read_from (length s - i) s p.at p.state ≡ read_of s

pub begun : (s : List ℕ) → starts s ≡ true → Midway s 0 (started s)
unfolding read_of
begun s e = let all : length s - 0 ≡ length s = omega arith in record { same = refl; left = rw (e, all) }

-- ---- one command
more : (n : ℕ) (s : List ℕ) (at : ℕ) (st : State) → 0 < n → read_from n s at st ≡ onward s (step_of s at st) (read_from (n - 1) s)
more zero s at st h = absurd (omega arith)
more (suc n) s at st h = rw sub-one

-- a step that was refused, and one that went on
module _ (p q : Reached) where
  answer : (r : Result Bool Refusal) (x : Step) → (r, q) ≡ stepped_of p x → r ≡ (stepped_of p x).0
  answer r x e = ap (λ (z : Result Bool Refusal × Reached). z.0) e

  stopped_is : (x : Step) (f : Refusal) → (Err f, q) ≡ stepped_of p x → (n : ℕ) × (at : ℕ) × (x ≡ stop n at) × (f ≡ refusal_of n at)
  stopped_is (next at st) f e = let a = answer _ (next at st) e in let z : ◌≡◌ {A = ℕ} 0 1 = cc in absurd (omega (arith, z))
  stopped_is (stop n at) f e = let a = answer _ (stop n at) e in (n, at, refl, cc)

  went_is : (x : Step) (b : Bool) → (Ok b, q) ≡ stepped_of p x
      → (x ≡ next q.at q.state) × (b ≡ eqb q.state.last 0xFF) × (q.bytes ≡ p.bytes)
  went_is (next at st) b e =
      let a = answer _ (next at st) e in
      let there : q ≡ record { bytes = p.bytes; at = at; state = st } = ap (λ (z : Result Bool Refusal × Reached). z.1) e in
      let ended : b ≡ eqb st.last 0xFF = cc in
      rw there (refl, ended, refl)
  went_is (stop n at) b e = let a = answer _ (stop n at) e in let z : ◌≡◌ {A = ℕ} 0 1 = cc in absurd (omega (arith, z))

-- ---- a turn of the loop
module _ (s : List ℕ) (i : ℕ) (p : Reached) (m : Midway s i p) (h : i < length s) where
  turned : onward s (step_at p) (read_from (length s - i - 1) s) ≡ read_of s
  turned = rw m.same (sym (more (length s - i) s p.at p.state (omega arith)) ∙ m.left)

  pub broken_off : (q : Reached) (f : Refusal) → (Err f, q) ≡ stepped_of p (step_at p)
      → ◌≡◌ {A = Result Job Refusal} (Err f) (decoded_of (read_of s))
  broken_off q f e =
      let (n, at, stopped, is) = stopped_is p q (step_at p) f e in
      rw is (ap decoded_of (rw stopped at turned))

  -- a command was taken
  module _ (q : Reached) (b : Bool) (e : (Ok b, q) ≡ stepped_of p (step_at p)) where
    left : onward s (next q.at q.state) (read_from (length s - i - 1) s) ≡ read_of s
    left = rw (went_is p q (step_at p) b e).0 at turned

    ending_is : (t : Bool) → b ≡ t → eqb q.state.last 0xFF ≡ t
    ending_is t k = sym (went_is p q (step_at p) b e).1 ∙ k

    pub again : b ≡ false → Midway s (i + 1) q
    again k =
        let one_less : length s - (i + 1) ≡ length s - i - 1 = omega arith in
        record {
          same = (went_is p q (step_at p) b e).2 ∙ m.same;
          left = rw one_less (rw (ending_is false k) at left);
        }

pub none_left : (s : List ℕ) (i : ℕ) (p : Reached) → Midway s i p → length s ≤ i → Err (refusal_of 2 (length s)) ≡ decoded_of (read_of s)
none_left s i p m h =
    let none : length s - i ≡ 0 = omega arith in
    ap decoded_of (rw none at m.left)

pub not_started : (s : List ℕ) → starts s ≡ false → Err (refusal_of 1 0) ≡ decoded_of (read_of s)
unfolding read_of
not_started s e = rw e
