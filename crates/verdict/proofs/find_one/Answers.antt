-- `verdict::find_one` meets its contract. Assumes nothing.
use borrow.Author.Rules.{rules}
use mathlib.Core.Path.{◌≡◌, refl, sym, ◌∙◌}
use mathlib.Core.Bool.{false≢true}
use Rattle.base.proofs.Options.{none_of}
use Rattle.job.specs.Meaning.{condition_of}
use Rattle.conditions.specs.Meeting.{always}
use Rattle.conditions.specs.Meeting.{Ends}
use Rattle.verdict.specs.Found.{without}
use Rattle.verdict.proofs.Searching.{always_fits, outside_asks, searched}
use Rattle.verdict.proofs.Finding.{Passed, passes, shows_1, shows_2, shows_neither}
use Rattle.verdict.proofs.find_one.Goals as goal
use Rattle.verdict.proofs.find_one.Given.{Over}
use Rattle.verdict.proofs.find_one.Goals.{Joined-else-differ, After-outside, else-differ-via-then-differ+else-met, else-differ-via-else-differ}

pub returns-then-met : goal.returns-then-met
returns-then-met g c =
    let r = shows_1 c.args.z.now c.args.differ (condition_of c.args.keeps.now)
    (condition_of c.args.wants.now) _ c.if-differ.true c.met.ensures c.if-met.true in
    record { kind = r.0; zone = r.1 }

pub outside-requires : goal.outside-requires
outside-requires g c =
    let put = c.put_choices.ensures in (
      search rules,
      (
        search rules,
        outside_asks _ c.requires.searches.first c.put_choices.new.choices put.ways put.size
            (record {
              some_node = c.requires.some_node;
              searches = record { first = rw c.always-always.ensures (always_fits _); second = c.requires.searches.second };
            }),
      ),
    )

-- the first search found nothing, or wasn't made
passed : (g : Over) (c : Joined-else-differ g) → Passed c.args.z.now c.args.differ (condition_of c.args.wants.now)
passed g c = passes _ _ _ (λ made. elim c.else-differ.branch [
  | else-differ-via-then-differ+else-met s ↦ none_of _ s.met.ensures.0 s.if-met.false
  | else-differ-via-else-differ s ↦ absurd (false≢true (sym s.if-differ.false ∙ made))
])

-- what the second found
found : (g : Over) (c : After-outside g)
    → Ends (without c.args.z.now always (condition_of c.args.wants.now) (condition_of c.args.keeps.now)) c.outside.result c.outside.new.out
found g c =
    let put = c.put_choices.ensures in
    let first : condition_of c.always-always.result ≡ always = rw c.always-always.ensures refl in
    rw first at (searched _ c.requires.searches.first _ put.ways put.size _ _ c.outside.ensures)

pub returns-then-outside : goal.returns-then-outside
returns-then-outside g c =
    let at_end = goal.at.returns-then-outside g c in
    let r = shows_2 _ c.args.differ _ _ _ (passed g at_end.Joined-else-differ) (found g at_end.After-outside) c.if-outside.true in
    record { kind = r.0; zone = r.1 }

pub returns : goal.returns
returns g c =
    let at_end = goal.at.returns g c in
    let r = shows_neither _ c.args.differ _ _ _ (passed g at_end.Joined-else-differ) (found g at_end.After-outside) c.if-outside.false in
    record { kind = r.0; zone = r.1 }
