-- Each turn of `read_input` takes from what is left to read or from what is left of the time.
use Rattle.std.proofs.Common.{◌≡◌, ◌+◌, ◌-◌, ◌≤◌, length, take}
use Rattle.std.specs.Io.KnownBytes.{Consumes}
use Rattle.decide.proofs.read_input.Given as goal

abbrev pub invariant-loop-done : goal.invariant-loop-done
invariant-loop-done g l =
    (length l.s ≡ length l.initial.s) × (l.done ≤ length l.s)
    × Consumes (g.R.Read.remaining l.initial.input) (g.R.Read.remaining l.input) (take l.done l.s)

abbrev pub decreases-loop-done : goal.decreases-loop-done
decreases-loop-done g l = (length l.s - l.done) + l.left
