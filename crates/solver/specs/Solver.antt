-- The solver: a list of comparisons as one closed zone, and its least row.
use Rattle.std.specs.Prelude.{Bool, ◌&&◌, List, [], ◌∷◌, map, ℕ, length, drop, ℤ, pos, negsuc, ltb}
use Rattle.std.proofs.Math.Option.{Option, some}
use Rattle.std.specs.Int.Signed.{le_z}
use Rattle.base.specs.Options.{and_then}
use Rattle.base.specs.Lists.{all_of}
use Rattle.words.specs.Bias.{bias, biased, unbiased}
use Rattle.model.specs.Tables.{Row, Against, column, number, Comparison}
use Rattle.model.specs.declared.Bounds.{Bounds}
use Rattle.zone.specs.declared.Constraint.{Constraint}
use Rattle.zone.specs.Zone.{Zone, boxed, constrained, least_of}
use Rattle.solver.specs.declared.Constraints.{Constraints}
use Rattle.solver.specs.Comparisons.{constraints_of, list_of}

-- ---- What it takes

-- within the bias either way
abbrev pub fits : ℤ → Bool
fits v = le_z (negsuc 999999999999999) v && le_z v (pos bias)

-- both fit, and lo is at most hi
abbrev pub bounds_fit : Bounds → Bool
bounds_fit b = fits b.lo && fits b.hi && le_z b.lo b.hi

-- a column among n, or a number that fits
abbrev pub against_fits : ℕ → Against → Bool
against_fits n (column c) = ltb c n
against_fits n (number v) = fits v

abbrev pub comparison_fits : ℕ → Comparison → Bool
comparison_fits n k = ltb k.left n && against_fits n k.right

unfoldable pub solvable : List Bounds → List Comparison → Bool
solvable bs ks = all_of bounds_fit bs && all_of (comparison_fits (length bs)) ks

-- ---- The zone of a list of comparisons

-- the row of nodes of a row of values
abbrev pub nodes : List ℤ → List ℕ
nodes r = bias ∷ map (biased bias) r

abbrev pub row_of : List ℕ → Row
row_of x = map (unbiased bias) (drop 1 x)

-- the least values of some bounds, and the greatest
abbrev pub los : List Bounds → List ℤ
los bs = map (λ b. b.lo) bs

abbrev pub his : List Bounds → List ℤ
his bs = map (λ b. b.hi) bs

unfoldable pub box_of : List Bounds → Zone
box_of bs = boxed (nodes (los bs)) (nodes (his bs))

-- with some constraints more, one after the other
abbrev pub constrained_by : Zone → List Constraint → Option Zone
constrained_by z [] = some z
constrained_by z (c ∷ cs) = and_then (constrained z c) (λ y. constrained_by y cs)

unfoldable pub imposed_by : Zone → Constraints → Option Zone
imposed_by z p = constrained_by z (list_of p)

-- with a comparison more, and with all of a list
unfoldable pub imposed : Zone → Comparison → Option Zone
imposed z k = imposed_by z (constraints_of k)

abbrev pub imposed_all : Zone → List Comparison → Option Zone
imposed_all z [] = some z
imposed_all z (k ∷ ks) = and_then (imposed z k) (λ y. imposed_all y ks)

unfoldable pub zone_of : List Bounds → List Comparison → Option Zone
zone_of bs ks = imposed_all (box_of bs) ks

-- the least row that meets the list, or none
unfoldable pub solution : List Bounds → List Comparison → Option Row
solution bs ks = and_then (zone_of bs ks) (λ z. some (row_of (least_of z)))
