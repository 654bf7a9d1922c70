use Rattle.zone.proofs.Held.{point_in_array, point_is}
use Rattle.zone.proofs.Zone.new.Goals as goal

pub invariant_of-result : goal.invariant_of-result
invariant_of-result g c = point_in_array _ c.requires

pub returns : goal.returns
returns g c = point_is _ c.requires
