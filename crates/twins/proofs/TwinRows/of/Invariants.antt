-- `twins::TwinRows::of` meets its contract. Assumes nothing.
use Rattle.twins.proofs.Twinned.{Both}
use Rattle.twins.proofs.TwinRows.of.Given as goal

abbrev pub invariant-loop-c : goal.invariant-loop-c
invariant-loop-c l = Both l.column-items l.stored l.c l.t
