-- Databases of at most one row in each table, as the code holds them.
use Rattle.std.specs.Prelude.{◌≡◌, Bool, false, cond, ◌&&◌, List, [], ◌∷◌, map, ℕ, ◌<◌, ◌≤◌, ℤ, pos, eqb, leb}
use Rattle.std.specs.Prelude.{length, get_or, take, replicate}
use Rattle.base.specs.Lists.{at, tabulate}
use Rattle.base.specs.Arrays.{padded}
use Rattle.model.specs.Tables as model
use Rattle.model.specs.Tables.{Row, uses, part_of, value}
use Rattle.model.specs.Verdict.{columns, uses_other}
use Rattle.zone.specs.Zone.{Zone, least_of}
use Rattle.solver.specs.Solver.{row_of}
use Rattle.job.specs.declared.Column.{Column}
use Rattle.job.specs.declared.Columns.{Columns}
use Rattle.job.specs.declared.Expression.{Expression}
use Rattle.job.specs.Record.{no_column}
use Rattle.job.specs.Meaning.{expression_of, table_numbers}
use Rattle.databases.specs.declared.Database.{Database}
use Rattle.databases.specs.declared.Pair.{Pair}

-- no row in any table
abbrev pub no_database : Database
no_database = record { present = replicate 4 false; values = replicate 16 (pos 0) }

-- the database that a record stands for: in each table that is present, the values of its columns
unfoldable pub database_of : model.Job → Database → model.Database
database_of j d t = cond (get_or d.present t false) (part_of j.tables (take (length (columns j)) d.values) t ∷ []) []

-- the table of column c
abbrev pub table_at : List Column → ℕ → ℕ
table_at cs c = (get_or cs c no_column).table

-- an undeclared table isn't present, and only columns of present tables have other values than zero
pub record TidyDatabase (k : Columns) (d : Database) : Type 0 where
  pub undeclared : (t : ℕ) → k.tables ≤ t → get_or d.present t false ≡ false
  pub absent : (c : ℕ) → c < k.width → get_or d.present (table_at k.columns c) false ≡ false → value d.values c ≡ pos 0
  pub past : (c : ℕ) → k.width ≤ c → value d.values c ≡ pos 0

-- ---- Made of a row

-- the row's value of column c, where the column's table is present
abbrev pub value_in : List Column → List Bool → List ℤ → ℕ → ℤ
value_in cs ps row c = cond (get_or ps (table_at cs c) false) (value row c) (pos 0)

unfoldable pub database_record : Columns → List Bool → List ℤ → Database
database_record k ps row = record { present = ps; values = padded 16 (pos 0) (tabulate k.width (value_in k.columns ps row)) }

-- the tables that both expressions use
unfoldable pub present_in : model.Expression → model.Expression → List Bool
present_in e f = map (λ t. uses e t && uses f t) table_numbers

-- a row in each table that the query uses
unfoldable pub row_record : Columns → Expression → List ℤ → Database
row_record k query row = database_record k (present_in (expression_of query) (expression_of query)) row

-- where the query uses a table that the extract doesn't, the same without such tables; otherwise no row at all
unfoldable pub reduced_record : Columns → Expression → Expression → List ℤ → Database
reduced_record k extract query row =
    cond (uses_other (expression_of query) (expression_of extract))
    (database_record k (present_in (expression_of query) (expression_of extract)) row)
    no_database

-- ---- Two databases, of a kind and the row that shows it

-- the least row of a zone
abbrev pub least_in : Zone → Row
least_in z = row_of (least_of z)

-- the first row and the second of two as one, in arrays
abbrev pub first_in : ℕ → Row → List ℤ
first_in n row = padded 16 (pos 0) (take n row)

abbrev pub second_in : ℕ → List ℕ → Row → List ℤ
second_in n twin row = padded 16 (pos 0) (tabulate n (λ c. value row (at twin c)))

-- with kinds 1 and 2: the row, and what is left of it without other tables, or none
unfoldable pub one_pair : Columns → Expression → Expression → ℕ → Row → Pair
one_pair k extract query kind row = record {
  first = row_record k query (first_in k.width row);
  second = cond (eqb kind 1) (reduced_record k extract query (first_in k.width row)) no_database;
}

-- with kinds 3 and 4: the two rows
unfoldable pub two_pair : Columns → Expression → List ℕ → Row → Pair
two_pair k query twin row = record {
  first = row_record k query (first_in k.width row);
  second = row_record k query (second_in k.width twin row);
}

unfoldable pub pair_record : Columns → Expression → Expression → List ℕ → ℕ → Row → Pair
pair_record k extract query twin kind row =
    cond (eqb kind 0) (record { first = no_database; second = no_database })
    (cond (leb kind 2) (one_pair k extract query kind row) (two_pair k query twin row))
