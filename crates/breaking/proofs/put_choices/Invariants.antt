-- `breaking::put_choices` meets its contract: the ways of one clause more with each turn. Assumes nothing.
use Rattle.job.specs.Meaning.{condition_of}
use Rattle.breaking.proofs.Filling.{Laying}
use Rattle.breaking.proofs.put_choices.Given as goal

abbrev pub invariant-loop-q : goal.invariant-loop-q
invariant-loop-q l = Laying (condition_of l.k) l.q l.ways-items
