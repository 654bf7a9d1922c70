use native.Mathlib.Omega.{arith}
-- `solver::least_row` meets its contract. Assumes nothing.
use borrow.Author.Rules.{rules}
use mathlib.Core.Path.{sym, ◌∙◌}
use Rattle.solver.proofs.Found.{imposes, least_room, row_written, none_written}
use Rattle.solver.proofs.least_row.Goals as goal

pub impose_all-requires : goal.impose_all-requires
impose_all-requires c = (omega arith, imposes _ _ _ c.requires _ c.set_bounds.ensures.zone)

pub read_least-requires : goal.read_least-requires
read_least-requires c = (
  omega arith,
  least_room _ _ _ c.requires _ c.set_bounds.ensures.zone
      (sym c.impose_all.ensures.answer ∙ c.if-impose_all.true) _ c.impose_all.ensures.zone c.set_bounds.ensures.words.0
      c.set_bounds.ensures.words.1,
)

pub returns-then-impose_all : goal.returns-then-impose_all
returns-then-impose_all c = let r = row_written _ _ _ c.requires _
    c.set_bounds.ensures.zone (sym c.impose_all.ensures.answer ∙ c.if-impose_all.true) _ c.impose_all.ensures.zone _ c.read_least.ensures in
    record { answer = r.0; row = r.1 }

pub returns : goal.returns
returns c = let r = none_written _ _ _ c.requires _ c.set_bounds.ensures.zone
    (sym c.impose_all.ensures.answer ∙ c.if-impose_all.false) _ (search rules) in record { answer = r.0; row = r.1 }
