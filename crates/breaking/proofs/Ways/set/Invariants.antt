-- `breaking::Ways::set` meets its contract: the ways of one comparison more with each turn. Assumes nothing.
use mathlib.Core.List.{map}
use Rattle.job.specs.Meaning.{comparison_of}
use Rattle.breaking.proofs.Filling.{Putting}
use Rattle.breaking.proofs.Ways.set.Given as goal

abbrev pub invariant-loop-k : goal.invariant-loop-k
invariant-loop-k l = Putting (map comparison_of l.k-items) l.k-index l.self
