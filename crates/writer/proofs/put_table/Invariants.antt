-- One column more with each turn. Assumes nothing.
use lib.ListN.{drop}
use Rattle.base.proofs.Bytes.{Left}
use Rattle.writer.specs.Parts.{columns_in, column_in}
use Rattle.writer.proofs.put_table.Given as goal

abbrev pub invariant-loop-c : goal.invariant-loop-c
invariant-loop-c l = Left (column_in l.t) (columns_in l.k) (drop l.c-index (columns_in l.k)) l.initial.out l.out
