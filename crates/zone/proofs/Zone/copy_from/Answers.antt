use native.Mathlib.Omega.{arith}
use Rattle.zone.proofs.Laid.{copied_in_array}
use Rattle.zone.proofs.Held.{copy_is}
use Rattle.zone.proofs.Zone.copy_from.Goals as goal

pub invariant_of-self : goal.invariant_of-self
invariant_of-self g c =
    copied_in_array c.self.inside.entries c.other.invariant (omega (arith, c.other.invariant.room)) c.copy.ensures

pub returns : goal.returns
returns g c =
    copy_is c.other.invariant c.other.view_is c.self.inside.entries (omega (arith, c.other.invariant.room)) c.copy.ensures
