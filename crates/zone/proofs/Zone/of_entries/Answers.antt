-- `Zone::of_entries` meets its contract: the rows are copied. Assumes nothing.
use Prim.Native.Nat.{ℕ}
use native.Mathlib.Omega.{arith}
use Rattle.std.proofs.lemmas.List.{length-replicate}
use Rattle.zone.proofs.Laid.{copied_in_array, copied_is}
use Rattle.zone.proofs.Zone.of_entries.Goals as goal

pub invariant_of-result : goal.invariant_of-result
invariant_of-result g c =
    copied_in_array _ c.requires.lies (omega (arith, c.requires.room, length-replicate {A = ℕ} g.row.N 0)) c.copy.ensures

pub returns : goal.returns
returns g c =
    copied_is _ c.requires.lies (omega (arith, c.requires.room, length-replicate {A = ℕ} g.row.N 0)) c.copy.ensures
