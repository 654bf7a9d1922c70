use borrow.Author.Rules.{rules}
use mathlib.Core.Path.{◌∙◌}
use Rattle.std.proofs.lemmas.Iterator.{YieldsList-from_slice}
use Rattle.std.proofs.lemmas.Iterator.Adapters.{serves_from_places}
use Rattle.std.proofs.lemmas.Iterator.Search.{any_from_yields_List}
use Rattle.base.proofs.Lists.{any_is}
use Rattle.zone.specs.Zone.{allows, tightened}
use Rattle.breaking.specs.Breaking.{breakable}
use Rattle.breaking.proofs.Ahead.{after_asks}
use Rattle.breaking.proofs.breakable_after.Goals as goal

pub any-requires-clause-callable : goal.any-requires-clause-callable
any-requires-clause-callable g c =
    serves_from_places (YieldsList-from_slice c.args.ways.now c.iter.ensures.rest) (λ x q r. search rules) (λ x k l e.
    (search rules, rw e (after_asks x.now c.requires l)))

pub returns : goal.returns
unfolding breakable
returns g c =
    any_from_yields_List (allows (tightened c.args.z.now c.args.c)) _ _ _ c.any.ensures.ran (YieldsList-from_slice _ c.iter.ensures.rest)
    (λ x b q k. search rules) ∙ any_is _ c.args.ways.now
