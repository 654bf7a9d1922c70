-- One table more with each turn. Assumes nothing.
use lib.ListN.{take, drop}
use Rattle.base.proofs.Bytes.{Left}
use Rattle.job.specs.Meaning.{table_numbers}
use Rattle.writer.specs.Parts.{columns_in, table_bytes}
use Rattle.writer.proofs.put_tables.Given as goal

abbrev pub invariant-loop-t : goal.invariant-loop-t
invariant-loop-t l =
    Left (table_bytes (columns_in l.k)) (take l.k.tables table_numbers) (drop l.t (take l.k.tables table_numbers)) l.initial.out l.out
