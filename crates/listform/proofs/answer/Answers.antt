-- `listform::answer` meets its contract: what `solve` found, and the row, make up the answer. Assumes nothing.
use mathlib.Core.Path.{◌∙◌}
use Rattle.listform.proofs.Answering.{bytes}
use Rattle.listform.proofs.answer.Goals as goal

pub returns-clause-bytes : goal.returns-clause-bytes
returns-clause-bytes c =
    c.put.ensures ∙ (bytes _ _ _ c.requires _ _ c.solve-found.ensures.found _ c.solve-found.auto.row c.solve-found.ensures.row)
