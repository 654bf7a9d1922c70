use borrow.Author.Rules.{rules}
use mathlib.Core.Path.{◌∙◌}
use Rattle.std.proofs.lemmas.Iterator.{YieldsList-from_slice}
use Rattle.std.proofs.lemmas.Iterator.Adapters.{serves_from_places}
use Rattle.std.proofs.lemmas.Iterator.Search.{all_from_yields_List}
use Rattle.std.proofs.lemmas.Grind.{get_or_default_zero}
use Rattle.breaking.proofs.Ahead.{ahead_one, breaks, all_open}
use Rattle.breaking.proofs.open_after.Goals as goal

pub all-requires-clause-callable : goal.all-requires-clause-callable
all-requires-clause-callable g c =
    serves_from_places (YieldsList-from_slice c.args.rest.now c.iter.ensures.rest) (λ x q r. search rules) (λ x i l e.
    (search rules, ahead_one c.requires l (e ∙ get_or_default_zero c.args.rest.now i x.now l)))

pub returns : goal.returns
returns g c =
    all_from_yields_List (breaks _ c.args.k.now) _ _ _ c.all.ensures.ran (YieldsList-from_slice _ c.iter.ensures.rest) (λ x b q k. search rules)
    ∙ all_open _ c.args.k.now c.args.rest.now
