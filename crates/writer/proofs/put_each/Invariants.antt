-- One pair more with each turn. Assumes nothing.
use mathlib.Core.List.{[], ◌∷◌}
use lib.ListN.{drop}
use Rattle.base.proofs.Bytes.{Left}
use Rattle.layout.specs.Commands.{number_of_command}
use Rattle.writer.proofs.put_each.Given as goal

abbrev pub invariant-loop-x : goal.invariant-loop-x
invariant-loop-x l = Left (λ x. number_of_command l.command ∷ x ∷ []) l.l (drop l.x-index l.l) l.initial.out l.out
