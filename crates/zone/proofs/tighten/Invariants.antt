-- `zone::tighten` meets its contract: a pass over the listed rows of the zone; a row that isn't listed is what it would become. Assumes
-- nothing.
use Rattle.zone.proofs.Turns.{Ahead}
use Rattle.zone.proofs.tighten.Given as goal

abbrev pub invariant-loop-i : goal.invariant-loop-i
invariant-loop-i l = Ahead l.n l.initial.d l.fn.c l.i-items l.i-index l.d
