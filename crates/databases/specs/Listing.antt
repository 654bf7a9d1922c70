-- The listing of a record's columns, with marks on those that aren't fixed.
use Rattle.std.specs.Prelude.{Bool, false, not, cond, List, ℕ, get_or, take, eqb}
use Rattle.base.specs.Lists.{any_of, tabulate}
use Rattle.base.specs.Arrays.{padded}
use Rattle.model.specs.Tables.{uses}
use Rattle.job.specs.declared.Columns.{Columns}
use Rattle.job.specs.declared.Expression.{Expression}
use Rattle.job.specs.Meaning.{expression_of}
use Rattle.databases.specs.Databases.{table_at}

-- 0 for a table that the extract leaves out, 1 for a stored column, 3 for a marked one, else 2
unfoldable pub listed_at : Columns → Expression → List Bool → ℕ → ℕ
listed_at k extract marks c =
    cond (not (uses (expression_of extract) (table_at k.columns c))) 0
    (cond (any_of (eqb c) (take extract.width extract.outputs)) 1
    (cond (get_or marks c false) 3 2))

-- the declared columns in order, with zeros behind
unfoldable pub listed_by : Columns → Expression → List Bool → List ℕ
listed_by k extract marks = padded 16 0 (tabulate k.width (listed_at k extract marks))
