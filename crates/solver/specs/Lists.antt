-- What is written of a row, and left of a zone.
use Rattle.std.specs.Prelude.{List, [], ◌∷◌, ℕ, replicate, pos}
use Rattle.std.proofs.Math.Option.{Option, none, some}
use Rattle.model.specs.Tables.{Row, Comparison}
use Rattle.zone.specs.Zone.{Zone}
use Rattle.solver.specs.Solver.{imposed}

-- what is written beside the answer: the row, or with none a zero for each of n columns
abbrev pub row_or_zeros : ℕ → Option Row → Row
row_or_zeros n none = replicate n (pos 0)
row_or_zeros n (some r) = r

abbrev pub onward : Option Zone → Zone → (Zone → Zone) → Zone
onward none old next = old
onward (some y) old next = next y

-- the zone of the comparisons before the first that leaves no row; of the entire list, where some row meets it
abbrev pub reached : Zone → List Comparison → Zone
reached z [] = z
reached z (k ∷ ks) = onward (imposed z k) z (λ y. reached y ks)
