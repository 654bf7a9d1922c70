-- What the functions ask of their callers, all of which is code of this repository.
use Rattle.std.specs.Prelude.{◌≡◌, List, map, ℕ, ◌+◌, ◌*◌, ◌<◌, ◌≤◌, length, take, T}
use Rattle.model.specs.WellFormed.{well_formed}
use Rattle.job.specs.declared.Columns.{Columns}
use Rattle.job.specs.declared.Condition.{Condition}
use Rattle.job.specs.declared.Expression.{Expression}
use Rattle.job.specs.Meaning.{bounds_of, job_of, record_of, problem}
use Rattle.zone.specs.Zone.{Zone, columns_of}
use Rattle.conditions.specs.Uses.{ConditionFits, Searches}
use Rattle.twins.specs.declared.TwinRows.{TwinRows}
use Rattle.twins.specs.Records.{twins_record}
use Rattle.twins.specs.Uses.{Partners}

-- ---- Searching

-- two conditions of a zone's columns
pub record FindsOne (z : Zone) (keeps wants : Condition) : Type 0 where
  pub some_node : 0 < length z
  pub searches : Searches z keeps wants

-- and a third, with columns and their twins among them
pub record FindsTwo (z : Zone) (rows : TwinRows) (keeps wants others : Condition) (cs : List ℕ) : Type 0 where
  pub finds : FindsOne z keeps wants
  pub third : ConditionFits (columns_of z) others
  pub partners : Partners (columns_of z) cs rows.twin

-- ---- Deciding

-- columns, an extract and a query that reading gives
pub record Given (k : Columns) (extract query : Expression) : Type 0 where
  pub formed : T (well_formed (job_of k extract query))
  pub laid : record_of (job_of k extract query) ≡ problem k extract query

-- two rows that agree in the columns that the extract stores
abbrev pub both_rows : Columns → Expression → TwinRows
both_rows k extract = twins_record (map bounds_of (take k.width k.columns)) (take extract.width extract.outputs)

pub record Decides (k : Columns) (extract query : Expression) (rows : TwinRows) : Type 0 where
  pub given : Given k extract query
  pub both : rows ≡ both_rows k extract

-- with room for the zone of both rows in n entries; none needs more than 1089
pub record DecidesSized (k : Columns) (extract query : Expression) (rows : TwinRows) (n : ℕ) : Type 0 where
  pub decides : Decides k extract query rows
  pub room : (rows.columns + 1) * 33 ≤ n
  pub most : n ≤ 1089
