-- Each turn of `write_output` takes from what is left to write or from what is left of the time.
use Rattle.std.proofs.Common.{◌+◌, ◌-◌, ◌≤◌, length, take}
use Rattle.std.specs.Io.KnownBytes.{Appends}
use Rattle.decide.proofs.write_output.Given as goal

abbrev pub invariant-loop-done : goal.invariant-loop-done
invariant-loop-done g l =
    (l.done ≤ length l.s) × Appends (g.W.Write.contents l.initial.output) (g.W.Write.contents l.output) (take l.done l.s)

abbrev pub decreases-loop-done : goal.decreases-loop-done
decreases-loop-done g l = (length l.s - l.done) + l.left
