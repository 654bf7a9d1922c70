use native.Mathlib.Omega.{arith}
use borrow.Author.Rules.{rules}
use mathlib.Core.Path.{refl, sym, ap, ◌∙◌}
use Prim.Native.Nat.{◌+◌}
use lib.ListN.{length}
use Rattle.conditions.specs.Meeting.{pairs_of}
use Rattle.conditions.proofs.Clauses.{item_fits}
use Rattle.conditions.proofs.Meeting.{laid_length}
use Rattle.twins.proofs.Marking.{marked_differ}
use Rattle.twins.proofs.Pairing.{marks_end, marks_without, marks_with, marks_whole, marks_settled}
use Rattle.twins.proofs.TwinRows.mark_pairs.Goals as goal
use Rattle.twins.proofs.TwinRows.mark_pairs.Goals.{then-lay_clause-2+else-all_marked-2, else-lay_clause-2, then-lay_clause+else-loop-e-test, else-lay_clause}

pub loop-c-init : goal.loop-c-init
unfolding pairs_of
loop-c-init g c = (refl, refl)

pub lay_clause-requires-in-loop-e : goal.lay_clause-requires-in-loop-e
lay_clause-requires-in-loop-e g c = (
  search rules,
  rw (laid_length _ _ c.lay_clause.ensures) (item_fits _ c.clauses-e-items.ensures c.loop-e-test.true c.requires.searches.second),
)

pub mark-requires : goal.mark-requires
mark-requires g c = (
  search rules,
  rw (laid_length _ _ c.lay_clause-in-loop-e.ensures, laid_length _ _ c.lay_clause.ensures, c.loop-e.invariant.0) c.requires.paired,
)

pub returns-then-all_marked : goal.returns-then-all_marked
unfolding pairs_of
returns-then-all_marked g c = marks_whole c.requires c.nodes.ensures.closed _ refl (sym c.all_marked.ensures ∙ c.if-all_marked.true)

pub returns-then-all_marked-2 : goal.returns-then-all_marked-2
returns-then-all_marked-2 g c =
    marks_settled c.requires c.nodes.ensures.closed _ (c.mark.auto.marks ∙ c.loop-e.invariant.0)
    (sym c.all_marked-then-lay_clause-2.ensures ∙ c.if-all_marked-2.true) c.clauses-c-items.ensures
    c.loop-c-test.true c.lay_clause.ensures c.if-lay_clause.true c.loop-c.marks (omega (arith, c.loop-c.invariant.0)) (c.loop-e.e-index + 1)
    (marks_with _ c.clauses-e-items.ensures _ _ _ c.loop-e-test.true c.lay_clause-in-loop-e.ensures c.loop-e.marks c.if-lay_clause-2.true
    (omega (arith, c.loop-e.invariant.0)) ((rw c.loop-e.invariant.0 at c.mark.ensures) ∙ marked_differ _ _ _ _)
    ∙ c.loop-e.invariant.1) ∙ c.loop-c.invariant.1

pub loop-e-preserved : goal.loop-e-preserved
loop-e-preserved g c =
    elim c.if-lay_clause-2.branch [
      | then-lay_clause-2+else-all_marked-2 w ↦ (
        ap length w.marks-is ∙ w.mark.auto.marks ∙ c.loop-e.invariant.0,
        marks_with _ c.clauses-e-items.ensures _ _ _ c.loop-e-test.true c.lay_clause-in-loop-e.ensures c.loop-e.marks w.if-lay_clause-2.true
            (omega (arith, c.loop-e.invariant.0))
            (w.marks-is ∙ (rw c.loop-e.invariant.0 at w.mark.ensures) ∙ marked_differ _ _ _ _) ∙ c.loop-e.invariant.1,
      )
      | else-lay_clause-2 w ↦ (
        ap length w.marks-is ∙ c.loop-e.invariant.0,
        rw w.marks-is (marks_without _ c.clauses-e-items.ensures _ _ _ c.loop-e-test.true c.lay_clause-in-loop-e.ensures c.loop-e.marks w.if-lay_clause-2.false)
            ∙ c.loop-e.invariant.1,
      )
    ]

pub loop-c-preserved : goal.loop-c-preserved
loop-c-preserved g c =
    elim c.if-lay_clause.branch [
      | then-lay_clause+else-loop-e-test w ↦ (
        ap length w.marks-is ∙ w.loop-e.invariant.0,
        marks_with _ c.clauses-c-items.ensures _ _ _ c.loop-c-test.true c.lay_clause.ensures c.loop-c.marks w.if-lay_clause.true
            (omega (arith, c.loop-c.invariant.0))
            (w.marks-is ∙ sym (marks_end _ w.clauses-e-items.ensures _ _ _ w.loop-e.marks (omega (arith, w.loop-e-test.false))) ∙ w.loop-e.invariant.1)
            ∙ c.loop-c.invariant.1,
      )
      | else-lay_clause w ↦ (
        ap length w.marks-is ∙ c.loop-c.invariant.0,
        rw w.marks-is (marks_without _ c.clauses-c-items.ensures _ _ _ c.loop-c-test.true c.lay_clause.ensures c.loop-c.marks w.if-lay_clause.false)
            ∙ c.loop-c.invariant.1,
      )
    ]

pub returns : goal.returns
returns g c = sym (marks_end _ c.clauses-c-items.ensures _ _ _ c.loop-c.marks (omega (arith, c.loop-c-test.false))) ∙ c.loop-c.invariant.1
