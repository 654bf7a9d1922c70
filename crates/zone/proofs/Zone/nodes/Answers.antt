use Rattle.zone.proofs.Held.{nodes_are}
use Rattle.zone.proofs.Zone.nodes.Goals as goal

pub returns-clause-nodes : goal.returns-clause-nodes
returns-clause-nodes g c = nodes_are c.self.invariant c.self.view_is
