-- What the functions ask of their callers, all of which is code of this repository.
use Rattle.std.specs.Prelude.{List, [], ℕ, ◌<◌, ◌≤◌, length, get_or, pos}
use Rattle.base.specs.Lists.{at}
use Rattle.job.specs.declared.Comparison.{Comparison}
use Rattle.job.specs.declared.Clause.{Clause}
use Rattle.job.specs.declared.Condition.{Condition}
use Rattle.zone.specs.Zone.{Zone, columns_of}
use Rattle.conditions.specs.Uses.{Searches}

-- ---- New names for columns

-- names that a byte holds one above
abbrev pub Names : List ℕ → Type 0
Names twin = (c : ℕ) → c < 16 → at twin c ≤ 32

-- a comparison of columns that there can be
pub record Compares (k : Comparison) : Type 0 where
  pub left : k.left < 16
  pub right : k.right ≤ 16

abbrev pub ComparesAll : Clause → Type 0
ComparesAll c = (i : ℕ) → i < 6 → Compares (get_or c.comparisons i (record { op = 0; left = 0; right = 0; number = pos 0 }))

pub record RenamesOne (k : Comparison) (twin : List ℕ) : Type 0 where
  pub compares : Compares k
  pub names : Names twin

pub record RenamesClause (c : Clause) (twin : List ℕ) : Type 0 where
  pub compares : ComparesAll c
  pub names : Names twin

pub record Renames (k : Condition) (twin : List ℕ) : Type 0 where
  pub compares : (q : ℕ) → q < 4 → ComparesAll (get_or k.clauses q (record { size = 0; comparisons = [] }))
  pub names : Names twin

-- ---- Rows

-- the first n columns of the second row stand in the row of both
pub record TwinsStand (twin : List ℕ) (n : ℕ) : Type 0 where
  pub few : n ≤ 16
  pub stand : (c : ℕ) → c < n → at twin c < 32

-- ---- Searches over two rows as one

-- w columns of a row, and their twins, are among n
pub record Paired (n w : ℕ) (twin : List ℕ) : Type 0 where
  pub small : w ≤ 16
  pub first_in : w ≤ n
  pub second_in : (c : ℕ) → c < w → at twin c < n

-- columns that there can be
abbrev pub Few : List ℕ → Type 0
Few cs = (i : ℕ) → i < length cs → at cs i < 16

-- columns of a row, each with its twin, among n
pub record Partners (n : ℕ) (cs twin : List ℕ) : Type 0 where
  pub small : Few cs
  pub first_in : (i : ℕ) → i < length cs → at cs i < n
  pub second_in : (i : ℕ) → i < length cs → at twin (at cs i) < n

-- two conditions, with such columns of the zone
pub record Differs (z : Zone) (k l : Condition) (cs twin : List ℕ) : Type 0 where
  pub searches : Searches z k l
  pub partners : Partners (columns_of z) cs twin

pub record Marks (z : Zone) (k l : Condition) (w : ℕ) (twin : List ℕ) : Type 0 where
  pub searches : Searches z k l
  pub paired : Paired (columns_of z) w twin
