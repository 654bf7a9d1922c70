-- `listform::solve` meets its contract: what it read is a list, or none. Assumes nothing.
use mathlib.Core.Path.{sym, ◌∙◌}
use Rattle.listform.proofs.Solving.{list_solves, unlisted, listed, row_kept, row_least}
use Rattle.listform.proofs.solve.Goals as goal

pub returns-then-not-fitting-clause-found : goal.returns-then-not-fitting-clause-found
returns-then-not-fitting-clause-found c =
    let d = c.decode.ensures in unlisted _ _ _ d.bounds d.list c.fitting.ensures c.if-not-fitting.true

pub returns-then-not-fitting-clause-row : goal.returns-then-not-fitting-clause-row
returns-then-not-fitting-clause-row c =
    let d = c.decode.ensures in row_kept _ _ _ d.bounds d.list c.fitting.ensures c.if-not-fitting.true _

pub least_row-requires : goal.least_row-requires
least_row-requires c =
    let d = c.decode.ensures in
    list_solves _ _ _ d.bounds d.list (sym c.fitting.ensures ∙ c.if-not-fitting.false) c.requires.rooms.small c.requires.room

pub returns-then-least_row-clause-found : goal.returns-then-least_row-clause-found
returns-then-least_row-clause-found c =
    let d = c.decode.ensures in
    rw c.if-least_row.true at (listed _ _ _ d.bounds d.list c.fitting.ensures c.if-not-fitting.false c.least_row.ensures.answer)

pub returns-then-least_row-clause-row : goal.returns-then-least_row-clause-row
returns-then-least_row-clause-row c =
    let d = c.decode.ensures in
    row_least _ _ _ d.bounds d.list c.fitting.ensures c.if-not-fitting.false _ c.least_row.ensures.row

pub returns-else-least_row-clause-found : goal.returns-else-least_row-clause-found
returns-else-least_row-clause-found c =
    let d = c.decode.ensures in
    rw c.if-least_row.false at (listed _ _ _ d.bounds d.list c.fitting.ensures c.if-not-fitting.false c.least_row.ensures.answer)

pub returns-else-least_row-clause-row : goal.returns-else-least_row-clause-row
returns-else-least_row-clause-row c =
    let d = c.decode.ensures in
    row_least _ _ _ d.bounds d.list c.fitting.ensures c.if-not-fitting.false _ c.least_row.ensures.row
