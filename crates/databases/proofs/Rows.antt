-- The two databases that a kind and the row that shows it stand for.
use mathlib.Core.Bool.{cond}
use Prim.Native.Nat.{ℕ}
use lib.ListN.{length}
use lib.Dec.{eqb, leb}
use Rattle.model.specs.Tables.{Row, Job, Database}
use Rattle.model.specs.Verdict.{columns}
use Rattle.model.specs.Pair.{row_database, reduced_database, empty_database}
use Rattle.twins.proofs.Rows.{first_row, second_row}

module _ (j : Job) where
  -- the two rows that one row stands for
  abbrev pub one_row : Row → Row
  one_row = first_row (length (columns j)) j.extract.outputs

  abbrev pub other_row : Row → Row
  other_row = second_row (length (columns j)) j.extract.outputs

  unfoldable pub first_by : ℕ → Row → Database
  first_by k r = cond (eqb k 0) empty_database (cond (leb k 2) (row_database j r) (row_database j (one_row r)))

  unfoldable pub second_by : ℕ → Row → Database
  second_by k r = cond (eqb k 1) (reduced_database j r) (cond (leb k 2) empty_database (row_database j (other_row r)))
