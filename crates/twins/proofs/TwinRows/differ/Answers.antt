use native.Mathlib.Omega.{arith}
use borrow.Author.Rules.{rules}
use mathlib.Core.Path.{refl}
use Rattle.base.proofs.Options.{none_of}
use Rattle.conditions.specs.Meeting.{pairs_of}
use Rattle.conditions.proofs.Clauses.{item_fits}
use Rattle.conditions.proofs.Meeting.{within, ends_none, laid_length}
use Rattle.conditions.proofs.Turns.{no_second, turns_end, turn_without, turn_passed, turn_with}
use Rattle.twins.proofs.Differing.{none_shared}
use Rattle.twins.proofs.TwinRows.differ.Goals as goal
use Rattle.twins.proofs.TwinRows.differ.Goals.{then-all_shared-via-then-all_shared, then-all_shared-via-else-all_shared+then-is_empty}
use Rattle.twins.proofs.TwinRows.differ.Goals.{else-lay_clause, then-lay_clause+else-loop-e-test}
use Rattle.twins.proofs.TwinRows.differ.Goals.{else-lay_clause-2-via-then-lay_clause-2+else-separate, else-lay_clause-2-via-else-lay_clause-2}

pub returns-then-all_shared : goal.returns-then-all_shared
returns-then-all_shared g c =
    elim c.then-all_shared.branch [
      | then-all_shared-via-then-all_shared w ↦
          ends_none _ (none_shared c.requires c.nodes.ensures.closed c.all_shared.ensures w.if-all_shared.true)
      | then-all_shared-via-else-all_shared+then-is_empty w ↦ ends_none _ (no_second _ w.clauses.ensures (search rules) _ _ _)
    ]

pub loop-c-init : goal.loop-c-init
unfolding pairs_of
loop-c-init g c = refl

pub lay_clause-requires-in-loop-e : goal.lay_clause-requires-in-loop-e
lay_clause-requires-in-loop-e g c = (
  search rules,
  rw (laid_length _ _ c.lay_clause.ensures) (item_fits _ c.clauses-e-items.ensures c.loop-e-test.true c.requires.searches.second),
)

pub separate-requires : goal.separate-requires
separate-requires g c = (
  search rules,
  rw (laid_length _ _ c.lay_clause-in-loop-e.ensures, laid_length _ _ c.lay_clause.ensures)
      (rw c.nodes.ensures.nodes at c.nodes.ensures.few, c.requires.partners),
)

pub returns-then-separate : goal.returns-then-separate
returns-then-separate g c =
    within _ c.separate.ensures c.if-separate.true
    (λ w found. turn_with _ c.clauses-c-items.ensures c.loop-c-test.true _ c.lay_clause.ensures _ c.loop-c.invariant c.if-lay_clause.true
    (turn_with _ c.clauses-e-items.ensures c.loop-e-test.true _ c.lay_clause-in-loop-e.ensures _ c.loop-e.invariant c.if-lay_clause-2.true found))

pub loop-e-preserved : goal.loop-e-preserved
loop-e-preserved g c =
    elim c.else-lay_clause-2.branch [
      | else-lay_clause-2-via-then-lay_clause-2+else-separate w ↦
          turn_passed _ c.clauses-e-items.ensures c.loop-e-test.true _ c.lay_clause-in-loop-e.ensures _ c.loop-e.invariant w.if-lay_clause-2.true
          (none_of _ w.separate.ensures.0 w.if-separate.false)
      | else-lay_clause-2-via-else-lay_clause-2 w ↦
          turn_without _ c.clauses-e-items.ensures c.loop-e-test.true _ c.lay_clause-in-loop-e.ensures _ c.loop-e.invariant w.if-lay_clause-2.false
    ]

pub loop-c-preserved : goal.loop-c-preserved
loop-c-preserved g c =
    elim c.if-lay_clause.branch [
      | then-lay_clause+else-loop-e-test w ↦
          turn_passed _ c.clauses-c-items.ensures c.loop-c-test.true _ c.lay_clause.ensures _ c.loop-c.invariant w.if-lay_clause.true
          (turns_end _ w.clauses-e-items.ensures _ _ w.loop-e.invariant (omega (arith, w.loop-e-test.false)))
      | else-lay_clause w ↦
          turn_without _ c.clauses-c-items.ensures c.loop-c-test.true _ c.lay_clause.ensures _ c.loop-c.invariant w.if-lay_clause.false
    ]

pub returns : goal.returns
returns g c =
    ends_none _ (turns_end _ c.clauses-c-items.ensures _ _ c.loop-c.invariant (omega (arith, c.loop-c-test.false)))
