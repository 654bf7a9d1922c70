use native.Mathlib.Omega.{arith}
use borrow.Author.Rules.{rules}
use Rattle.std.proofs.lemmas.Grind.{get_or_default_zero}
use Rattle.std.proofs.lemmas.Iterator.{YieldsList-from_slice}
use Rattle.std.proofs.lemmas.Iterator.Adapters.{serves_from_places}
use Rattle.twins.proofs.TwinRows.all_shared.Goals as goal

pub all-requires-clause-callable : goal.all-requires-clause-callable
all-requires-clause-callable c =
    serves_from_places (YieldsList-from_slice c.args.cs.now c.iter.ensures.rest) (λ x q r. search rules) (λ x k l e _ _ _ _ _ from _.
    omega (arith, from.ensures, get_or_default_zero c.args.cs.now k x.now l, c.requires k l, e))
