-- One number more with each turn. Assumes nothing.
use lib.ListN.{drop}
use Rattle.model.specs.Answers.{number_of_held}
use Rattle.report.specs.Text.{field}
use Rattle.base.proofs.Bytes.{Left}
use Rattle.report.proofs.put_columns.Given as goal

abbrev pub invariant-loop-c : goal.invariant-loop-c
invariant-loop-c l = Left (λ h. field " " (number_of_held h)) l.columns (drop l.c-index l.columns) l.initial.out l.out
