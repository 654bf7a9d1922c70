use Rattle.zone.proofs.Held.{constrains, kept_in_array, kept_is}
use Rattle.zone.proofs.Zone.constrain.Goals as goal

pub constrain-requires : goal.constrain-requires
constrain-requires g c = constrains c.self.invariant c.self.view_is c.requires

pub invariant_of-self : goal.invariant_of-self
invariant_of-self g c = kept_in_array c.self.invariant c.self.view_is c.requires c.constrain.ensures.zone

pub returns-clause-zone : goal.returns-clause-zone
returns-clause-zone g c = kept_is c.self.invariant c.self.view_is c.requires c.constrain.ensures.zone
