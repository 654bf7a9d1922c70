-- `databases::database_of` meets its contract: a pass over the values. Assumes nothing.
use lib.ListN.{take, replicate}
use lib.IntN.{pos}
use Rattle.base.proofs.Arrays.{Pass}
use Rattle.databases.specs.Databases.{value_in}
use Rattle.databases.proofs.database_of.Given as goal

abbrev pub invariant-loop-c : goal.invariant-loop-c
invariant-loop-c l = Pass (value_in l.k.columns l.present l.row) 0 l.k.width l.c (take l.k.width (replicate 16 (pos 0))) l.value-items
