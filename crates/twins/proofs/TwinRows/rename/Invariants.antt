-- `twins::TwinRows::rename` meets its contract: a pass over the clauses. Assumes nothing.
use lib.ListN.{length, get_or}
use mathlib.Core.List.{[]}
use Rattle.base.proofs.Arrays.{Pass}
use Rattle.twins.specs.Records.{renamed_clause}
use Rattle.twins.proofs.TwinRows.rename.Given as goal

abbrev pub invariant-loop-c : goal.invariant-loop-c
invariant-loop-c l = Pass (λ i. renamed_clause l.self.twin (get_or l.fn.k.clauses i (record { size = 0; comparisons = [] }))) 0
    (length l.fn.k.clauses) l.c-index l.fn.k.clauses l.c-items
