use borrow.Author.Rules.{rules}
use mathlib.Core.Path.{◌∙◌}
use Rattle.std.proofs.lemmas.Iterator.{YieldsList-from_slice, YieldsList-from_zip}
use Rattle.std.proofs.lemmas.Iterator.Adapters.{serves_from_places}
use Rattle.std.proofs.lemmas.Iterator.Search.{all_from_yields_List}
use Rattle.zone.proofs.Values.{has_zip, zip_node}
use Rattle.zone.proofs.has_values.Goals as goal

pub all-requires-clause-callable : goal.all-requires-clause-callable
all-requires-clause-callable c =
    serves_from_places (YieldsList-from_zip (YieldsList-from_slice c.args.ps.now (cc)) (YieldsList-from_slice c.args.vs.now (cc)))
    (λ x q r. search rules) (λ x k l e. let h = zip_node c.requires _ l e in search rules)

pub returns : goal.returns
returns c =
    all_from_yields_List _ c.all.new.self _ _ c.all.ensures.ran
    (YieldsList-from_zip (YieldsList-from_slice c.args.ps.now (cc)) (YieldsList-from_slice c.args.vs.now (cc)))
    (λ x b q k. search rules) ∙ has_zip c.args.x.now c.args.ps.now c.args.vs.now
