-- A pair of databases that can be handed out with kinds 1 to 4, made of the row or rows that the kind speaks of. Which pair is handed out is
-- free: any other that is `Evidence` will do as well.
use Rattle.std.specs.Prelude.{cond, ◌&&◌, [], ◌∷◌}
use Rattle.model.specs.Tables.{Row, Job, Database, uses, part_of}
use Rattle.model.specs.Verdict.{uses_other}

module _ (j : Job) where
  -- kind 1's and 2's first, and both of kinds 3 and 4: a row in each table that the query uses, none in the others
  unfoldable pub row_database : Row → Database
  row_database r t = cond (uses j.query t) (part_of j.tables r t ∷ []) []

  -- kind 1's second: where the query uses a table that the extract doesn't, the first less such tables; otherwise no row at all
  unfoldable pub reduced_database : Row → Database
  reduced_database r t = cond (uses_other j.query j.extract && uses j.extract t) (row_database r t) []

-- kind 2's second, and both of kind 0
abbrev pub empty_database : Database
empty_database t = []
