-- One clause more with each turn. Assumes nothing.
use lib.ListN.{take, drop}
use Rattle.base.proofs.Bytes.{Left}
use Rattle.writer.specs.Parts.{clause_bytes}
use Rattle.writer.proofs.put_condition.Given as goal

abbrev pub invariant-loop-c : goal.invariant-loop-c
invariant-loop-c l = Left clause_bytes (take l.k.size l.k.clauses) (drop l.c-index (take l.k.size l.k.clauses)) l.initial.out l.out
