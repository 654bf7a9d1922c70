-- Document 01, "Comparisons together": the least row that meets a list of comparisons, which may be longer than a clause.
use Rattle.std.specs.Prelude.{Bool, not, ◌&&◌, List}
use Rattle.std.proofs.Math.Option.{Option}
use Rattle.std.specs.Int.Signed.{le_z}
use Rattle.base.specs.Lists.{find, pairwise}
use Rattle.model.specs.Tables.{Row, Comparison, clause_holds}
use Rattle.model.specs.declared.Bounds.{Bounds}
use Rattle.model.specs.Rows.{box, some_row}

-- in every column at most
abbrev pub at_most_row : Row → Row → Bool
at_most_row r s = pairwise le_z r s

module _ (bs : List Bounds) (ks : List Comparison) where
  -- a row that meets the list and has in every column the least value among the rows that meet it
  unfoldable pub is_least : Row → Bool
  is_least r = clause_holds r ks && not (some_row bs (λ s. clause_holds s ks && not (at_most_row r s)))

  -- that row, or none
  unfoldable pub least_row : Option Row
  least_row = find is_least (box bs)
