-- What entering a command comes to: the place and the state of the definition, or its refusal. Assumes nothing.
use mathlib.Core.Path.{◌≡◌, refl, sym, ap, ◌∙◌}
use mathlib.Core.Logic.{◌≢◌}
use mathlib.Core.Bool.{Bool, true, false, ◌||◌}
use mathlib.Core.List.{List}
use Prim.Native.Nat.{ℕ, ◌+◌}
use native.Mathlib.Omega.{arith}
use lib.ListN.{length, get_or}
use lib.Dec.{eqb}
use borrow.Author.Tests.{eq-eqb, eqb-true, lt-ltb, le-leb}
use Rattle.std.specs.Prelude.{Some, Result, Ok, Err}
use Rattle.job.specs.declared.Job.{Job}
use Rattle.job.specs.Meaning.{meaning_of, record_of}
use Rattle.job.proofs.Meaning.{meaning_record}
use Rattle.layout.specs.declared.Command.{Command}
use Rattle.layout.specs.declared.Fault.{Fault}
use Rattle.layout.specs.Faults.{fault_of}
use Rattle.layout.specs.Commands.{number_of_command, Entry, command_of, operands, entry_at}
use Rattle.layout.specs.Reading.{State, Step, next, current, in_ranges, op_known, declared, is_new, after, check, taken, step_of}
use Rattle.layout.specs.Sound.{Sound}
use Rattle.layout.proofs.Given.{command_back, byte_is}
use Rattle.layout.proofs.Keeps.{step_sound}
use Rattle.commands.specs.declared.Addition.{Addition}
use Rattle.commands.specs.Reached.{Reached, state_of, Held}
use Rattle.commands.specs.Uses.{grown, Fits, judge, addition_of, judged_of, Ready, refused_at, stepped_of}
use Rattle.commands.proofs.Entries.{Added, added_is}

-- an entry that passes the checks 7 to 10, and what it adds
record Passed (st : State) (y : Entry) (x : Addition) : Type 0 where
  ranged : in_ranges y ≡ true
  known : op_known y ≡ true
  named : declared st.job.tables (current st) y ≡ true
  new : is_new (current st) y ≡ true
  same : x ≡ addition_of st y

judged : (n : ℕ) (t : Bool) (rest : Result Addition Fault) {x : Addition} → Ok x ≡ judge n t rest → (t ≡ true) × (Ok x ≡ rest)
judged n true rest e = (refl, e)
judged n false rest e = (cc, cc)

passed : (st : State) (y : Entry) (x : Addition) → Ok x ≡ judged_of st y → Passed st y x
passed st y x e =
    let (f, e₈) = judged 7 (in_ranges y) _ e in
    let (g, e₉) = judged 8 (op_known y) _ e₈ in
    let (h, e₁₀) = judged 9 (declared st.job.tables (current st) y) _ e₉ in
    let (k, z) = judged 10 (is_new (current st) y) _ e₁₀ in
    record { ranged = f; known = g; named = h; new = k; same = cc }

module _ (p : Reached) (c : Command) (ready : Ready p c) where
  abbrev s : List ℕ
  s = p.bytes

  abbrev at : ℕ
  at = p.at

  abbrev st : State
  st = p.state

  -- the command's byte and its entry
  abbrev b : ℕ
  b = get_or p.bytes p.at 0

  abbrev y : Entry
  y = entry_at c p.bytes p.at

  -- a command that is refused
  pub refused : (f : Fault) → Err f ≡ judged_of st y → (refused_at p.at (Err f), p) ≡ stepped_of p (taken s at st b c)
  unfolding taken
  refused f e =
      rw (ready.in_order, ready.room, le-leb (at + 1 + operands c) (length s) ready.whole)
      (go (in_ranges y) (op_known y) (declared st.job.tables (current st) y) (is_new (current st) y) (addition_of st y) _ e)
    where
      go : (i j k l : Bool) (z : Addition) (rest : Step) → Err f ≡ judge 7 i (judge 8 j (judge 9 k (judge 10 l (Ok z))))
          → (refused_at p.at (Err f), p) ≡ stepped_of p (check 7 at i (check 8 at j (check 9 at k (check 10 at l rest))))
      go false j k l z rest e = let w : f ≡ fault_of 7 = cc in rw w
      go true false k l z rest e = let w : f ≡ fault_of 8 = cc in rw w
      go true true false l z rest e = let w : f ≡ fault_of 9 = cc in rw w
      go true true true false z rest e = let w : f ≡ fault_of 10 = cc in rw w
      go true true true true z rest e = let w : ◌≡◌ {A = ℕ} 0 1 = cc in absurd (omega arith)

  -- a command that is taken, and what it adds to the record
  module _ (r : Job) (h : Held r st) (x : Addition) (e : Ok x ≡ judged_of st y) where
    abbrev then_read : State
    then_read = after b y st

    went : taken s at st b c ≡ next (at + 1 + operands c) then_read
    unfolding taken
    went =
        let k = passed st y x e in
        rw (ready.in_order, ready.room, le-leb (at + 1 + operands c) (length s) ready.whole, k.ranged, k.known, k.named, k.new)

    kept : Sound then_read
    unfolding step_of
    kept =
        let step : step_of s at st ≡ next (at + 1 + operands c) then_read =
        rw (lt-ltb at (length s) (omega (arith, ready.whole)), ready.listed) went in
        step_sound s at (at + 1 + operands c) st then_read h.sound step

    adds : Added r st y
    adds = let k = passed st y x e in added_is h s at c ready.in_order ready.room k.named k.new

    pub room : Fits st.in_query r x
    room = let k = passed st y x e in rw k.same adds.fits

    module _ (new : Job) (is : new ≡ grown st.in_query r x) (q : Bool) (begun : q ≡ (st.in_query || eqb b 0x21)) where
      laid : new ≡ record_of then_read.job
      laid = let k = passed st y x e in is ∙ ap (grown st.in_query r) k.same ∙ adds.told

      state_is : state_of b q new ≡ then_read
      state_is = let meant = ap meaning_of laid ∙ meaning_record then_read.job kept.few_tables in rw (begun, meant)

      pub still_held : Held new (state_of b q new)
      still_held = rw state_is (record { laid = laid; sound = kept })

      pub entered : (n : ℕ) (z : Bool) → n ≡ operands c → z ≡ eqb b 0xFF
          → (Ok z, record { bytes = s; at = at + (1 + n); state = state_of b q new }) ≡ stepped_of p (taken s at st b c)
      entered n z m o = let place : at + (1 + n) ≡ at + 1 + operands c = omega (arith, m) in rw (went, o, place, state_is)

-- ---- a command by its byte
module _ (b : ℕ) (c d : Command) (e : command_of b ≡ Some c) where
  pub same_byte : c ≡ d → true ≡ eqb b (number_of_command d)
  same_byte q = sym (eq-eqb b (number_of_command d) (byte_is b c e ∙ ap number_of_command q))

  pub other_byte : c ≢ d → false ≡ eqb b (number_of_command d)
  other_byte q = go (eqb b (number_of_command d)) refl
    where
      go : (t : Bool) → eqb b (number_of_command d) ≡ t → false ≡ eqb b (number_of_command d)
      go true h =
          let w = sym e ∙ ap command_of (eqb-true b (number_of_command d) h) ∙ command_back d in
          let z : c ≡ d = cc in absurd (q z)
      go false h = sym h
