-- One comparison more with each turn. Assumes nothing.
use lib.ListN.{take, drop}
use Rattle.base.proofs.Bytes.{Left}
use Rattle.writer.specs.Parts.{comparison_in}
use Rattle.writer.proofs.put_clause.Given as goal

abbrev pub invariant-loop-k : goal.invariant-loop-k
invariant-loop-k l = Left comparison_in (take l.c.size l.c.comparisons) (drop l.k-index (take l.c.size l.c.comparisons)) l.initial.out l.out
