-- `twins::TwinRows::second_row` meets its contract: a pass over the row. Assumes nothing.
use lib.ListN.{take, replicate}
use lib.IntN.{pos}
use Rattle.base.specs.Lists.{at}
use Rattle.base.proofs.Arrays.{Pass}
use Rattle.model.specs.Tables.{value}
use Rattle.twins.proofs.TwinRows.second_row.Given as goal

abbrev pub invariant-loop-c : goal.invariant-loop-c
invariant-loop-c l = Pass (λ c. value l.row (at l.self.twin c)) 0 l.n l.c (take l.n (replicate 16 (pos 0))) l.value-items
