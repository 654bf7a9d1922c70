use Rattle.zone.proofs.Held.{constrains}
use Rattle.zone.proofs.Zone.allows.Goals as goal

pub allows-requires : goal.allows-requires
allows-requires g c = constrains c.self.invariant c.self.view_is c.requires
