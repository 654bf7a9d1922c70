-- `reader::take` meets its contract. Assumes nothing.
use mathlib.Core.Path.{sym, ◌∙◌}
use Rattle.reader.proofs.Steps.{listed}
use Rattle.reader.proofs.take.Goals as goal

pub returns : goal.returns
returns c = listed _ c.requires _ (sym c.due.ensures ∙ c.in-Some.is) _ _ c.go_on.ensures
