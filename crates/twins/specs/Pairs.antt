-- Rows in which two columns differ.
use Rattle.std.specs.Prelude.{cond, List, ℕ, suc}
use Rattle.std.proofs.Math.Option.{Option, none, some}
use Rattle.base.specs.Options.{or_else, first_of}
use Rattle.words.specs.declared.Op.{Op}
use Rattle.words.specs.declared.Op.TheVariants.{Less, More}
use Rattle.model.specs.Tables.{column, Comparison}
use Rattle.zone.specs.Zone.{Zone, can_differ}
use Rattle.solver.specs.Solver.{imposed}

-- column a compared with column b
abbrev pub columns_by : Op → ℕ → ℕ → Comparison
columns_by o a b = record { op = o; left = a; right = column b }

-- the rows of a zone in which column a has less than column b, otherwise those in which it has more
unfoldable pub apart : ℕ → ℕ → Zone → Option Zone
apart a b z = or_else (imposed z (columns_by Less a b)) (imposed z (columns_by More a b))

-- the same of the first column of some that can differ from its partner
unfoldable pub some_apart : (ℕ → ℕ) → List ℕ → Zone → Option Zone
some_apart partner cs z = first_of cs (λ c. apart c (partner c) z)

-- the zone itself, where column a and column b differ in some row of it
unfoldable pub if_differ : ℕ → ℕ → Zone → Option Zone
if_differ a b z = cond (can_differ z (suc a) (suc b)) (some z) none
