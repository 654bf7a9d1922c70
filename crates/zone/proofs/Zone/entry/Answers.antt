use native.Mathlib.Omega.{arith}
use Rattle.zone.proofs.Held.{place_below, entry_is}
use Rattle.zone.proofs.Zone.entry.Goals as goal

pub overflow_mul-result : goal.overflow_mul-result
overflow_mul-result g c = omega (arith, place_below c.self.invariant c.self.view_is c.requires)

pub overflow_add-result : goal.overflow_add-result
overflow_add-result g c = omega (arith, place_below c.self.invariant c.self.view_is c.requires)

pub offset_bounds-entries-i : goal.offset_bounds-entries-i
offset_bounds-entries-i g c = omega (arith, place_below c.self.invariant c.self.view_is c.requires)

pub bounds-entries-i : goal.bounds-entries-i
bounds-entries-i g c = omega (arith, place_below c.self.invariant c.self.view_is c.requires)

pub returns-clause-entry : goal.returns-clause-entry
returns-clause-entry g c = entry_is c.self.invariant c.self.view_is c.requires
