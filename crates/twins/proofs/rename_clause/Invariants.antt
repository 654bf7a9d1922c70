-- `twins::rename_clause` meets its contract: a pass over the comparisons. Assumes nothing.
use lib.ListN.{length, get_or}
use Rattle.base.proofs.Arrays.{Pass}
use Rattle.job.specs.Record.{no_comparison}
use Rattle.twins.specs.Records.{renamed_one}
use Rattle.twins.proofs.rename_clause.Given as goal

abbrev pub invariant-loop-k : goal.invariant-loop-k
invariant-loop-k l = Pass (λ i. renamed_one l.twin (get_or l.fn.c.comparisons i no_comparison)) 0 (length l.fn.c.comparisons) l.k-index
    l.fn.c.comparisons l.k-items
