-- `zone::copy` meets its contract: entry after entry. Assumes nothing.
use lib.ListN.{length}
use Rattle.base.specs.Lists.{at}
use Rattle.base.proofs.Arrays.{Pass}
use Rattle.zone.proofs.copy.Given as goal

abbrev pub invariant-loop-k : goal.invariant-loop-k
invariant-loop-k l = Pass (at l.from) 0 (length l.from) l.k l.initial.to l.to
