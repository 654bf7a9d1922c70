-- What is given where a command is taken: it passed the checks 2 to 10, and the state after it is known. Assumes nothing.
use mathlib.Core.Path.{◌≡◌, refl}
use mathlib.Core.Bool.{Bool, true, false, cond}
use mathlib.Core.List.{List}
use Rattle.std.specs.Prelude.{Option, None, Some}
use Prim.Native.Nat.{ℕ, ◌+◌, ◌<◌, ◌≤◌}
use native.Mathlib.Omega.{arith}
use lib.ListN.{length, get_or}
use lib.Dec.{T, eqb, ltb, ltb→lt, leb→le}
use borrow.Author.Tests.{eqb-true}
use Rattle.layout.specs.declared.Command.{Command}
use Rattle.layout.specs.declared.Command.TheVariants.{NextTable, NextColumn, ExtractBegins, QueryBegins, TableUsed, OutputColumn, NextClause, NumberCompared}
use Rattle.layout.specs.declared.Command.TheVariants.{ColumnCompared, End}
use Rattle.layout.specs.Commands.{number_of_command, command_of, operands, entry_at}
use Rattle.layout.specs.Reading.{State, current, follows, has_room, has_operands, in_ranges, op_known, declared, is_new, after, Step, next, check, taken}
use Rattle.layout.specs.Reading.{if_listed, step_of}

-- ---- a command's byte
pub command_back : (c : Command) → command_of (number_of_command c) ≡ Some c
unfolding command_of
command_back c = grind arith

-- one row of the list of commands, and the rows below it
row : (b : ℕ) (c d : Command) (rest : Option Command) → (rest ≡ Some c → b ≡ number_of_command c) → cond (eqb b (number_of_command d)) (Some d) rest ≡ Some c
    → b ≡ number_of_command c
row b c d rest below e = go (eqb b (number_of_command d)) refl e
  where
    go : (t : Bool) → eqb b (number_of_command d) ≡ t → cond t (Some d) rest ≡ Some c → b ≡ number_of_command c
    go true h f = let g : d ≡ c = cc in rw (← g) (eqb-true b (number_of_command d) h)
    go false h f = below f

none_some : {c : Command} {b n : ℕ} → ◌≡◌ {A = Option Command} None (Some c) → b ≡ n
none_some e = cc

pub byte_is : (b : ℕ) (c : Command) → command_of b ≡ Some c → b ≡ number_of_command c
unfolding command_of
byte_is b c =
    row b c NextTable _ (row b c NextColumn _ (row b c ExtractBegins _ (row b c QueryBegins _ (row b c TableUsed _ (row b c OutputColumn _
    (row b c NextClause _ (row b c NumberCompared _ (row b c ColumnCompared _
    (row b c End _ (λ e. none_some e))))))))))

-- ---- what the checks leave
pub record Given (s : List ℕ) (at : ℕ) (st : State) (at' : ℕ) (st' : State) (c : Command) : Type 0 where
  pub inside : at < length s
  pub byte : get_or s at 0 ≡ number_of_command c
  pub follow : T (follows st c)
  pub room : T (has_room st c)
  pub whole : at + 1 + operands c ≤ length s
  pub ranged : T (in_ranges (entry_at c s at))
  pub known : T (op_known (entry_at c s at))
  pub named : T (declared st.job.tables (current st) (entry_at c s at))
  pub new : T (is_new (current st) (entry_at c s at))
  pub place : at + 1 + operands c ≡ at'
  pub state : after (number_of_command c) (entry_at c s at) st ≡ st'

passed : (n at : ℕ) (t : Bool) (rest : Step) {at' : ℕ} {st' : State} → check n at t rest ≡ next at' st' → T t × (rest ≡ next at' st')
passed n at true rest e = (tt, e)
passed n at false rest e = let w : ◌≡◌ {A = ℕ} 0 1 = cc in absurd (omega arith)

listed : (at : ℕ) (o : Option Command) (f : Command → Step) {at' : ℕ} {st' : State} → if_listed at o f ≡ next at' st'
    → (c : Command) × (o ≡ Some c) × (f c ≡ next at' st')
listed at None f e = let w : ◌≡◌ {A = ℕ} 0 1 = cc in absurd (omega arith)
listed at (Some c) f e = (c, refl, e)

pub step_given : (s : List ℕ) (at at' : ℕ) (st st' : State) → step_of s at st ≡ next at' st' → (c : Command) × Given s at st at' st' c
unfolding step_of taken
step_given s at at' st st' e =
    let (i, e₂) = passed 2 (length s) (ltb at (length s)) (if_listed at (command_of (get_or s at 0)) (taken s at st (get_or s at 0))) e in
    let (c, l, e₃) = listed at (command_of (get_or s at 0)) (taken s at st (get_or s at 0)) e₂ in
    let (f, e₄) = passed 4 at (follows st c) _ e₃ in
    let (r, e₅) = passed 5 at (has_room st c) _ e₄ in
    let (w, e₆) = passed 6 at (has_operands s at c) _ e₅ in
    let (a, e₇) = passed 7 at (in_ranges (entry_at c s at)) _ e₆ in
    let (k, e₈) = passed 8 at (op_known (entry_at c s at)) _ e₇ in
    let (d, e₉) = passed 9 at (declared st.job.tables (current st) (entry_at c s at)) _ e₈ in
    let (n, z) = passed 10 at (is_new (current st) (entry_at c s at)) _ e₉ in
    let b = byte_is (get_or s at 0) c l in (
      c,
      record {
        inside = ltb→lt at (length s) i;
        byte = b;
        follow = f;
        room = r;
        whole = leb→le (at + 1 + operands c) (length s) w;
        ranged = a;
        known = k;
        named = d;
        new = n;
        place = cc;
        state = rw (← b) (cc);
      },
    )
