use mathlib.Core.Path.{refl}
use Rattle.conditions.specs.Meeting.{met}
use Rattle.conditions.proofs.Meeting.{laid_found, ends_some}
use Rattle.conditions.proofs.Turns.{this_clause}
use Rattle.conditions.proofs.met.Goals as goal

pub loop-c-init : goal.loop-c-init
unfolding met
loop-c-init g c = refl

pub returns-then-lay_clause : goal.returns-then-lay_clause
returns-then-lay_clause g c =
    ends_some _ (this_clause c.args.k.now c.clauses-c-items.ensures _ _ c.loop-c.invariant c.loop-c-test.true
    (laid_found c.args.z.now _ c.lay_clause.ensures c.if-lay_clause.true))
