-- What the functions ask of their callers, all of which is code of this repository.
use Rattle.std.specs.Prelude.{◌≡◌, List, ℕ, ◌<◌, ◌≤◌, length, ℤ}
use Rattle.zone.specs.Zone.{Zone, columns_of, least_of}
use Rattle.solver.specs.Uses.{WordNodes}
use Rattle.job.specs.declared.Columns.{Columns}
use Rattle.twins.specs.Uses.{TwinsStand}
use Rattle.databases.specs.Databases.{table_at}

-- columns and their tables are no more than there can be: a lent record may have any, and it is judged before databases are made
pub record TablesFew (k : Columns) : Type 0 where
  pub width : k.width ≤ 16
  pub tables : (c : ℕ) → c < k.width → table_at k.columns c < 4

-- a zone whose least row's values are of 32 bits
abbrev pub HasLeast : Zone → Type 0
HasLeast z = (row : List ℤ) → length row ≡ columns_of z → WordNodes (least_of z) row

-- and the zone that was found: of these columns
pub record PairsOne (k : Columns) (z : Zone) : Type 0 where
  pub few : TablesFew k
  pub first_in : k.width ≤ columns_of z
  pub least : HasLeast z

-- of the columns of two rows as one
pub record PairsTwo (k : Columns) (twin : List ℕ) (z : Zone) : Type 0 where
  pub few : TablesFew k
  pub first_in : k.width ≤ columns_of z
  pub second_in : TwinsStand twin k.width
  pub least : HasLeast z

-- of those that the kind calls for
pub record PairsBy (k : Columns) (twin : List ℕ) (kind : ℕ) (z : Zone) : Type 0 where
  pub one : 0 < kind → kind < 3 → PairsOne k z
  pub two : 3 ≤ kind → PairsTwo k twin z
