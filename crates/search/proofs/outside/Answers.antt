use borrow.Author.Rules.{rules}
use native.Mathlib.Omega.{arith}
use mathlib.Core.Path.{refl, ◌∙◌}
use Rattle.base.proofs.Options.{none_of}
use Rattle.conditions.specs.Meeting.{pairs_of}
use Rattle.conditions.proofs.Clauses.{item_fits}
use Rattle.conditions.proofs.Meeting.{ends_none, within, laid_length}
use Rattle.conditions.proofs.Turns.{no_second, turns_end, turn_without, turn_passed, turn_with}
use Rattle.search.specs.Search.{outside}
use Rattle.search.proofs.outside.Goals as goal
use Rattle.search.proofs.outside.Goals.{else-lay_clause, then-lay_clause+else-second-test, else-lay_clause-2, then-lay_clause-2+else-broken}

pub returns-then-is_empty : goal.returns-then-is_empty
unfolding outside
returns-then-is_empty g c = ends_none _ (no_second _ c.clauses.ensures (search rules) _ _ _)

pub first-init : goal.first-init
unfolding pairs_of
first-init g c = record { not_yet = refl; left = refl }

pub second-init : goal.second-init
second-init g c = record { not_yet = c.first.invariant.not_yet; kept = refl; left = refl }

pub lay_clause-requires-in-second : goal.lay_clause-requires-in-second
lay_clause-requires-in-second g c = (
  search rules,
  rw (c.second.invariant.kept, laid_length _ _ c.lay_clause.ensures)
      (item_fits _ c.clauses-e-items.ensures c.second-test.true c.requires.searches.second),
)

pub broken-requires : goal.broken-requires
broken-requires g c = (
  search rules,
  rw (laid_length _ _ c.lay_clause-in-second.ensures, c.second.invariant.kept, laid_length _ _ c.lay_clause.ensures) c.requires.weighs,
)

pub second-preserved : goal.second-preserved
second-preserved g c =
    elim c.if-lay_clause-2.branch [
      | then-lay_clause-2+else-broken s ↦ rw s.on_way-is (record {
        not_yet = c.second.invariant.not_yet;
        kept = c.second.invariant.kept;
        left = turn_passed _ c.clauses-e-items.ensures c.second-test.true _ c.lay_clause-in-second.ensures _ c.second.invariant.left
            s.if-lay_clause-2.true (none_of _ s.broken.ensures.0 s.if-broken.false);
      })
      | else-lay_clause-2 s ↦ rw s.on_way-is (record {
        not_yet = c.second.invariant.not_yet;
        kept = c.second.invariant.kept;
        left = turn_without _ c.clauses-e-items.ensures c.second-test.true _ c.lay_clause-in-second.ensures _ c.second.invariant.left
            s.if-lay_clause-2.false;
      })
    ]

pub first-preserved : goal.first-preserved
first-preserved g c =
    elim c.if-lay_clause.branch [
      | then-lay_clause+else-second-test s ↦ record {
        not_yet = s.found-is ∙ s.second.invariant.not_yet;
        left = turn_passed _ c.clauses-c-items.ensures c.first-test.true _ c.lay_clause.ensures _ c.first.invariant.left s.if-lay_clause.true
            (turns_end _ s.clauses-e-items.ensures _ _ s.second.invariant.left (omega (arith, s.second-test.false)));
      }
      | else-lay_clause s ↦ record {
        not_yet = s.found-is ∙ c.first.invariant.not_yet;
        left = turn_without _ c.clauses-c-items.ensures c.first-test.true _ c.lay_clause.ensures _ c.first.invariant.left s.if-lay_clause.false;
      }
    ]

pub returns-after-first : goal.returns-after-first
unfolding outside
returns-after-first g c =
    rw c.first.invariant.not_yet
    (ends_none _ (turns_end _ c.clauses-c-items.ensures _ _ c.first.invariant.left (omega (arith, c.first-test.false))))

pub returns-then-broken : goal.returns-then-broken
unfolding outside
returns-then-broken g c =
    within _ c.broken.ensures c.if-broken.true
    (λ w found. turn_with _ c.clauses-c-items.ensures c.first-test.true _ c.lay_clause.ensures _ c.first.invariant.left c.if-lay_clause.true
    (turn_with _ c.clauses-e-items.ensures c.second-test.true _ c.lay_clause-in-second.ensures _ c.second.invariant.left c.if-lay_clause-2.true found))
