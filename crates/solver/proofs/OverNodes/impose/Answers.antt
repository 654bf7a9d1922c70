-- `solver::OverNodes::impose` meets its contract. Assumes nothing.
use borrow.Author.Rules.{rules}
use mathlib.Core.Path.{sym, ◌∙◌}
use Rattle.solver.proofs.Imposing.{next_joins, one_outcome, first_outcome, second_outcome, both_outcome}
use Rattle.solver.proofs.OverNodes.impose.Goals as goal

pub returns-in_default : goal.returns-in_default
returns-in_default g c =
    let r = one_outcome c.requires c.self.view_is c.self.invariant c.constraints-p.ensures c.in_default.is _ _ c.constrain.ensures.answer c.constrain.ensures.zone in
    record { answer = r.0; zone = r.1 }

pub returns-then-not-allows : goal.returns-then-not-allows
returns-then-not-allows g c =
    let r = second_outcome c.requires c.self.view_is c.self.invariant c.constraints-p.ensures c.in-Some.is c.allows.ensures.closed
    (sym c.allows.ensures.answer ∙ c.if-not-allows.true) in
    record { answer = r.0; zone = r.1 }

pub returns-then-not-constrain : goal.returns-then-not-constrain
returns-then-not-constrain g c =
    let r = first_outcome c.requires c.self.view_is c.self.invariant c.constraints-p.ensures c.in-Some.is c.allows.ensures.closed
    (sym c.constrain-2.ensures.answer ∙ c.if-not-constrain.true) in
    record { answer = r.0; zone = c.constrain-2.ensures.zone ∙ r.1 }

pub constrain-requires-3 : goal.constrain-requires-3
constrain-requires-3 g c = (search rules, rw c.constrain-2.ensures.zone (next_joins c.requires c.self.view_is c.self.invariant c.constraints-p.ensures c.in-Some.is))

pub returns : goal.returns
returns g c =
    let r = both_outcome c.requires c.self.view_is c.self.invariant c.constraints-p.ensures c.in-Some.is c.allows.ensures.closed
    (sym c.constrain-2.ensures.answer ∙ c.if-not-constrain.false) (sym c.allows.ensures.answer ∙ c.if-not-allows.false)
    _ c.constrain-2.ensures.zone _ _ c.constrain-3.ensures.answer c.constrain-3.ensures.zone in
    record { answer = r.0; zone = r.1 }
