use borrow.Author.Rules.{rules}
use mathlib.Core.Path.{◌∙◌, ap}
use lib.ListN.{length}
use Rattle.std.proofs.lemmas.Iterator.{YieldsList-from_slice}
use Rattle.std.proofs.lemmas.Iterator.Adapters.{serves_from_places}
use Rattle.std.proofs.lemmas.Iterator.Consumers.{YieldsList-from_filter, count_from_yields_List}
use Rattle.base.proofs.Places.{element}
use Rattle.zone.specs.Zone.{allows}
use Rattle.search.proofs.Weighing.{filter_is}
use Rattle.search.proofs.count_allowed.Goals as goal

pub count-requires-clause-can : goal.count-requires-clause-can
count-requires-clause-can g c = (
  tt,
  tt,
  serves_from_places (YieldsList-from_slice c.args.ways.now (cc)) (λ x q r. search rules) (λ x k l e.
      let h = c.requires x.now (rw e (element c.args.ways.now k x.now l)) in search rules),
)

pub returns : goal.returns
returns g c =
    count_from_yields_List c.filter.result _ c.count.ensures.ran
    (YieldsList-from_filter _ (allows c.args.z.now) (YieldsList-from_slice c.args.ways.now (cc)) c.filter.ensures.closure (λ x b q k. search rules))
    ∙ ap length (filter_is _ c.args.ways.now)
