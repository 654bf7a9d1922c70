-- What is left to read gives what the whole gives (`Midway`). Assumes nothing.
use Rattle.reader.proofs.Turns.{Midway}
use Rattle.reader.proofs.read.Given as goal

abbrev pub invariant-loop : goal.invariant-loop
invariant-loop l = Midway l.s l.counter l.p
