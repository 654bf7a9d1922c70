-- `search::weigh` meets its contract: a pass over the weights of the clauses. Assumes nothing.
use lib.ListN.{take, replicate}
use Rattle.base.proofs.Arrays.{Pass}
use Rattle.search.proofs.Weighing.{weight_at}
use Rattle.search.proofs.weigh.Given as goal

abbrev pub invariant-loop-q : goal.invariant-loop-q
invariant-loop-q g l = Pass (weight_at l.z l.k) 0 l.k.clauses l.q (take l.k.clauses (replicate 4 13)) l.weight-items
