-- `verdict::find_two` meets its contract. Assumes nothing.
use borrow.Author.Rules.{rules}
use mathlib.Core.Path.{◌≡◌}
use mathlib.Core.Option.{none}
use Rattle.base.specs.Lists.{at}
use Rattle.base.proofs.Options.{none_of}
use Rattle.job.specs.Meaning.{condition_of}
use Rattle.twins.specs.Pairs.{some_apart}
use Rattle.verdict.specs.Found.{without}
use Rattle.verdict.proofs.Searching.{outside_asks, searched}
use Rattle.verdict.proofs.Finding.{shows_3, shows_4, shows_none}
use Rattle.verdict.proofs.find_two.Goals as goal
use Rattle.verdict.proofs.find_two.Given.{Over}
use Rattle.verdict.proofs.find_two.Goals.{Else-outside}

pub outside-requires : goal.outside-requires
outside-requires g c =
    let put = c.put_choices.ensures in
    (search rules, (search rules, outside_asks _ c.requires.third c.put_choices.new.choices put.ways put.size c.requires.finds))

pub returns-then-outside : goal.returns-then-outside
returns-then-outside g c =
    let put = c.put_choices.ensures in
    let ends = searched _ c.requires.third _ put.ways put.size _ _ c.outside.ensures in
    let r = shows_3 _ _ _ _ (some_apart (at c.args.rows.now.twin) c.args.cs.now) _ ends c.if-outside.true in
    record { kind = r.0; zone = r.1 }

-- the first search found nothing
passed : (g : Over) (c : Else-outside g)
    → without c.args.z.now (condition_of c.args.keeps.now) (condition_of c.args.wants.now) (condition_of c.args.others.now) ≡ none
passed g c =
    let put = c.put_choices.ensures in
    none_of _ (searched _ c.requires.third _ put.ways put.size _ _ c.outside.ensures).0 c.if-outside.false

pub returns-then-differ : goal.returns-then-differ
returns-then-differ g c =
    let r = shows_4 _ _ _ _ (some_apart (at c.args.rows.now.twin) c.args.cs.now) _ (passed g ((goal.at.returns-then-differ g c).Else-outside))
    c.differ.ensures c.if-differ.true in
    record { kind = r.0; zone = r.1 }

pub returns : goal.returns
returns g c =
    let r = shows_none _ _ _ _ (some_apart (at c.args.rows.now.twin) c.args.cs.now) _ (passed g ((goal.at.returns g c).Else-outside))
    c.differ.ensures c.if-differ.false in
    record { kind = r.0; zone = r.1 }
