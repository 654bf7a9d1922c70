-- Each fault is the fault of its number, and reading refuses under these numbers alone. Assumes nothing.
use mathlib.Core.Path.{◌≡◌, refl}
use mathlib.Core.Bool.{Bool, true, false, cond}
use mathlib.Core.List.{List}
use Prim.Native.Nat.{ℕ, zero, suc}
use native.Mathlib.Omega.{arith}
use lib.ListN.{length, get_or}
use lib.Dec.{eqb, ltb}
use Rattle.std.specs.Prelude.{Option, None, Some}
use Rattle.layout.specs.declared.Command.{Command}
use Rattle.layout.specs.declared.Fault.{Fault}
use Rattle.layout.specs.Faults.{number_of_fault, fault_of}
use Rattle.layout.specs.Commands.{command_of, entry_at}
use Rattle.layout.specs.Reading.{State, current, at_start, follows, has_room, has_operands, in_ranges, op_known, declared, is_new}
use Rattle.layout.specs.Reading.{Step, next, stop, check, taken, if_listed, step_of, Reading, accepted, refused, ended, onward, read_from, starts, read_of}

pub fault_back : (f : Fault) → fault_of (number_of_fault f) ≡ f
fault_back f = grind arith

-- ---- the numbers under which reading refuses
abbrev Numbered : ℕ → Type 0
Numbered n = number_of_fault (fault_of n) ≡ n

checked : (n at : ℕ) (t : Bool) (rest : Step) {m p : ℕ} → check n at t rest ≡ stop m p → Numbered n → (rest ≡ stop m p → Numbered m)
    → Numbered m
checked n at true rest {m} e h k = k e
checked n at false rest {m} e h k = let f : n ≡ m = cc in rw f at h

listed : (at : ℕ) (o : Option Command) (f : Command → Step) {m p : ℕ} → if_listed at o f ≡ stop m p
    → ((c : Command) → f c ≡ stop m p → Numbered m) → Numbered m
listed at None f {m} e k = let f : 3 ≡ m = cc in rw (← f)
listed at (Some c) f {m} e k = k c e

step_numbered : (s : List ℕ) (at : ℕ) (st : State) {m p : ℕ} → step_of s at st ≡ stop m p → Numbered m
unfolding step_of taken
step_numbered s at st e =
    checked 2 (length s) (ltb at (length s)) (if_listed at (command_of (get_or s at 0)) (taken s at st (get_or s at 0))) e refl (λ e₂.
    listed at (command_of (get_or s at 0)) (taken s at st (get_or s at 0)) e₂ (λ c e₃.
    checked 4 at (follows st c) _ e₃ refl (λ e₄.
    checked 5 at (has_room st c) _ e₄ refl (λ e₅.
    checked 6 at (has_operands s at c) _ e₅ refl (λ e₆.
    checked 7 at (in_ranges (entry_at c s at)) _ e₆ refl (λ e₇.
    checked 8 at (op_known (entry_at c s at)) _ e₇ refl (λ e₈.
    checked 9 at (declared st.job.tables (current st) (entry_at c s at)) _ e₈ refl (λ e₉.
    checked 10 at (is_new (current st) (entry_at c s at)) _ e₉ refl (λ z.
    let w : ◌≡◌ {A = ℕ} 0 1 = cc in absurd (omega arith))))))))))

ended_numbered : (s : List ℕ) (at : ℕ) (st : State) {m p : ℕ} → ended s at st ≡ refused m p → Numbered m
ended_numbered s at st {m} {p} = go (eqb at (length s))
  where
    go : (b : Bool) → cond b (accepted st.job) (refused 11 at) ≡ refused m p → Numbered m
    go true e = let w : ◌≡◌ {A = ℕ} 0 1 = cc in absurd (omega arith)
    go false e = let f : 11 ≡ m = cc in rw (← f)

onward_numbered : (s : List ℕ) (x : Step) (rest : ℕ → State → Reading) {m p : ℕ} → onward s x rest ≡ refused m p
    → (x ≡ stop m p → Numbered m) → ((at : ℕ) (st : State) → rest at st ≡ refused m p → Numbered m) → Numbered m
onward_numbered s (stop n at) rest e h k = h (cc)
onward_numbered s (next at st) rest {m} {p} e h k = go (eqb st.last 0xFF) e
  where
    go : (b : Bool) → cond b (ended s at st) (rest at st) ≡ refused m p → Numbered m
    go true f = ended_numbered s at st f
    go false f = k at st f

from_numbered : (n : ℕ) (s : List ℕ) (at : ℕ) (st : State) {m p : ℕ} → read_from n s at st ≡ refused m p → Numbered m
from_numbered zero s at st {m} e = let f : 2 ≡ m = cc in rw (← f)
from_numbered (suc n) s at st e =
    onward_numbered s (step_of s at st) (read_from n s) e (λ f. step_numbered s at st f) (λ at' st' f. from_numbered n s at' st' f)

pub read_numbered : (s : List ℕ) {n at : ℕ} → read_of s ≡ refused n at → number_of_fault (fault_of n) ≡ n
unfolding read_of
read_numbered s {n} {at} e = go (starts s) e
  where
    go : (b : Bool) → cond b (read_from (length s) s 4 at_start) (refused 1 0) ≡ refused n at → Numbered n
    go true f = from_numbered (length s) s 4 at_start f
    go false f = let g : 1 ≡ n = cc in rw (← g)
