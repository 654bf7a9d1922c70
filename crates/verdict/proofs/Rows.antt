-- The two databases that are made of the least row of what was found.
use mathlib.Core.List.{[]}
use mathlib.Core.Option.{Option, none, some}
use Rattle.model.specs.Tables.{Row, Job, Database}
use Rattle.zone.specs.Zone.{Zone, least_of}
use Rattle.solver.specs.Solver.{row_of}
use Rattle.databases.proofs.Rows.{first_by, second_by}
use Rattle.verdict.specs.Found.{found_kind, finding}

-- the least row of a zone that was found
abbrev pub least_found : Option Zone → Row
least_found none = []
least_found (some y) = row_of (least_of y)

module _ (j : Job) where
  unfoldable pub first_handed : Database
  first_handed = first_by j (found_kind j) (least_found (finding j))

  unfoldable pub second_handed : Database
  second_handed = second_by j (found_kind j) (least_found (finding j))
