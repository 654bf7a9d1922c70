-- What one command comes to. Assumes nothing.
use mathlib.Core.Path.{◌≡◌}
use mathlib.Core.Bool.{Bool, true, false}
use mathlib.Core.List.{List}
use Prim.Native.Nat.{ℕ, ◌≤◌, ◌<◌}
use lib.ListN.{length, get_or}
use borrow.Author.Tests.{lt-ltb, le-ltb}
use Rattle.std.specs.Prelude.{None, Some, Result, Err}
use Rattle.layout.specs.declared.Command.{Command}
use Rattle.layout.specs.declared.Fault.TheVariants.{Unlisted, OutOfOrder, NoRoom, NoOperands}
use Rattle.layout.specs.declared.Refusal.{Refusal}
use Rattle.layout.specs.Faults.{refusal_of}
use Rattle.layout.specs.Commands.{command_of}
use Rattle.layout.specs.Reading.{follows, has_room, has_operands, taken, step_of}
use Rattle.commands.specs.Reached.{Reached, step_at}
use Rattle.commands.specs.Uses.{refused_at, stepped_of}

module _ (p : Reached) where
  abbrev s : List ℕ
  s = p.bytes

  pub step_none : length s ≤ p.at → (Err (refusal_of 2 (length s)), p) ≡ stepped_of p (step_at p)
  unfolding step_of
  step_none h = rw (le-ltb p.at (length s) h)

  module _ (below : p.at < length s) where
    pub unlisted : command_of (get_or s p.at 0) ≡ None → (refused_at p.at (Err Unlisted), p) ≡ stepped_of p (step_at p)
    unfolding step_of
    unlisted n = rw (lt-ltb p.at (length s) below, n)

    module _ (c : Command) (is : command_of (get_or s p.at 0) ≡ Some c) where
      pub listed : (r : Result Bool Refusal) (q : Reached) → (r, q) ≡ stepped_of p (taken s p.at p.state (get_or s p.at 0) c)
          → (r, q) ≡ stepped_of p (step_at p)
      unfolding step_of
      listed r q e = rw (lt-ltb p.at (length s) below, is) e

      pub not_due : follows p.state c ≡ false → (refused_at p.at (Err OutOfOrder), p) ≡ stepped_of p (step_at p)
      unfolding step_of taken
      not_due f = rw (lt-ltb p.at (length s) below, is, f)

      pub no_room : follows p.state c ≡ true → has_room p.state c ≡ false
          → (refused_at p.at (Err NoRoom), p) ≡ stepped_of p (step_at p)
      unfolding step_of taken
      no_room f g = rw (lt-ltb p.at (length s) below, is, f, g)

      pub too_short : follows p.state c ≡ true → has_room p.state c ≡ true → has_operands s p.at c ≡ false
          → (refused_at p.at (Err NoOperands), p) ≡ stepped_of p (step_at p)
      unfolding step_of taken
      too_short f g k = rw (lt-ltb p.at (length s) below, is, f, g, k)

-- the refusals 3 to 6
pub ruleset refusals = (unlisted, not_due, no_room, too_short)
