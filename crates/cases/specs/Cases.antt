-- Document 01, "Cases": what each of 1 to 15 states, as entries of one table. proofs/Theorems.antt shows that every entry holds.
use Rattle.std.specs.Prelude.{◌≡◌, List, [], ◌∷◌, ℕ, ◌<◌, length, pos, T}
use Rattle.std.proofs.Math.Option.{Option, none, some}
use Rattle.words.specs.declared.Op.{Op}
use Rattle.words.specs.declared.Op.TheVariants.{Less, Equal, AtLeast, More}
use Rattle.model.specs.Tables.{Table, column, number, Comparison, Clause, Condition, Expression, Job, Row, Database, WithinBounds}
use Rattle.model.specs.declared.Bounds.{Bounds}
use Rattle.model.specs.WellFormed.{well_formed}
use Rattle.model.specs.Least.{least_row}
use Rattle.model.specs.Verdict.{columns, kind_of, listing_of, query_rows}

-- ---- What an entry states

pub data Statement : Type 0 where
  -- the kind of a job
  kind : Job → ℕ → Statement
  -- the listing of one of its columns
  listing : Job → ℕ → ℕ → Statement
  -- its query has no row on any database
  no_rows : Job → Statement
  -- the least row that meets a list of comparisons, or that there is none
  least : List Bounds → List Comparison → Option Row → Statement

-- of a job also that it is well formed, as all that reading accepts are
abbrev pub Holds : Statement → Type 0
Holds (kind j k) = T (well_formed j) × (kind_of j ≡ k)
Holds (listing j c l) = T (well_formed j) × (c < length (columns j)) × (listing_of j c ≡ l)
Holds (no_rows j) = T (well_formed j) × ((d : Database) → WithinBounds j.tables d → query_rows j d ≡ [])
Holds (least bs ks o) = least_row bs ks ≡ o

-- an entry of the table: the number of a case, and something that it states
pub record Entry : Type 0 where
  pub number : ℕ
  pub states : Statement

-- ---- How jobs and lists are written down

-- the columns of table 0
abbrev A : ℕ
A = 0

abbrev B : ℕ
B = 1

abbrev C : ℕ
C = 2

abbrev between : ℕ → ℕ → Bounds
between a b = record { lo = pos a; hi = pos b }

-- A, B and C, each from 0 to n
abbrev abc : ℕ → Table
abc n = between 0 n ∷ between 0 n ∷ between 0 n ∷ []

-- a column set against a number, and against a column
abbrev to_number : ℕ → Op → ℕ → Comparison
to_number c o n = record { op = o; left = c; right = number (pos n) }

abbrev to_column : ℕ → Op → ℕ → Comparison
to_column c o d = record { op = o; left = c; right = column d }

-- conditions of one clause
abbrev all : Condition
all = [] ∷ []

abbrev one : Clause → Condition
one c = c ∷ []

-- an expression over table 0, and over tables 0 and 1
abbrev over0 : List ℕ → Condition → Expression
over0 cs k = record { used = 0 ∷ []; outputs = cs; condition = k }

abbrev over01 : List ℕ → Condition → Expression
over01 cs k = record { used = 0 ∷ 1 ∷ []; outputs = cs; condition = k }

-- a job of one table
abbrev job : Table → Expression → Expression → Job
job t e q = record { tables = t ∷ []; extract = e; query = q }

-- ---- What several entries share

-- 2 and 3: the query wants B above n
abbrev job2 : ℕ → Job
job2 n = job (abc 50) (over0 (A ∷ C ∷ []) (one (to_number B More 5 ∷ []))) (over0 (A ∷ []) (one (to_number B More n ∷ to_number C Less 20 ∷ [])))

-- 4 and 5: B has the bounds b
abbrev job4 : Bounds → Job
job4 b = job (between 0 9 ∷ b ∷ between 0 9 ∷ []) (over0 (A ∷ []) all) (over0 (B ∷ []) all)

-- 8 and 10: D is the one column of table 1, and the query wants A above n
abbrev job8 : ℕ → Job
job8 n = record {
  tables = abc 9 ∷ (between 0 9 ∷ []) ∷ [];
  extract = over0 (A ∷ []) all;
  query = over01 (A ∷ []) (one (to_number A More n ∷ []));
}

abbrev job9 : Job
job9 =
    job (abc 9) (over0 (A ∷ []) ((to_number A Equal 1 ∷ to_number B Equal 5 ∷ []) ∷ (to_number A Equal 2 ∷ []) ∷ []))
    (over0 (B ∷ []) (one (to_number A Equal 1 ∷ to_number B Equal 5 ∷ [])))

-- 12: document 004's variables, in the order in which document 01 gives their values
abbrev t : ℕ
t = 0

abbrev x : ℕ
x = 1

abbrev z : ℕ
z = 2

abbrev y : ℕ
y = 3

abbrev txzy : List Bounds
txzy = between 0 50 ∷ between 0 50 ∷ between 0 50 ∷ between 0 50 ∷ []

-- B' of document 004, section 4, in its order
abbrev section4 : List Comparison
section4 =
    to_number x More 10
    ∷ to_number y Less 20
    ∷ to_number z More 15
    ∷ to_number x Less 25
    ∷ to_column x Less y
    ∷ to_column z Less y
    ∷ to_column x Less z
    ∷ to_column t Less z
    ∷ []

-- ---- The table

abbrev case : ℕ → Statement → Entry
case n s = record { number = n; states = s }

unfoldable pub cases : List Entry
cases =
    -- what the query tests is stored
    case 1 (kind (job (abc 9) (over0 (A ∷ B ∷ []) all) (over0 (A ∷ []) (one (to_number B More 5 ∷ [])))) 0)
    -- B is tested further than by the extract, and isn't stored
    ∷ case 2 (kind (job2 10) 3)
    -- B is tested as by the extract
    ∷ case 3 (kind (job2 5) 0)
    -- B is wanted, and isn't stored
    ∷ case 4 (kind (job4 (between 0 9)) 4)
    -- B has one value
    ∷ case 5 (kind (job4 (between 7 7)) 0)
    -- the query wants a row with B 6, which the extract doesn't keep
    ∷ case 6 (kind (job (abc 9) (over0 (A ∷ []) (one (to_number B More 6 ∷ []))) (over0 (A ∷ []) (one (to_number B More 5 ∷ [])))) 2)
    -- the same rows, in other words
    ∷ case 7 (kind (job (abc 9) (over0 (A ∷ []) (one (to_number B More 5 ∷ []))) (over0 (A ∷ []) (one (to_number B AtLeast 6 ∷ [])))) 0)
    -- other tables, but no A is that high
    ∷ case 8 (kind (job8 9) 0)
    ∷ case 8 (no_rows (job8 9))
    -- B is known where the query wants it, and not with A 2
    ∷ case 9 (kind job9 0)
    ∷ case 9 (listing job9 B 3)
    -- other tables
    ∷ case 10 (kind (job8 8) 1)
    -- "equal" doesn't undo what stands before it
    ∷ case 11 (least (abc 9) (to_number A More 7 ∷ to_number A Equal 5 ∷ []) none)
    -- t, x, z and y; and with one comparison more
    ∷ case 12 (least txzy section4 (some (pos 0 ∷ pos 11 ∷ pos 16 ∷ pos 17 ∷ [])))
    ∷ case 12 (least txzy (to_number t More 20 ∷ section4) none)
    -- a cycle
    ∷ case 13 (least (abc 9) (to_column A Less B ∷ to_column B Less A ∷ []) none)
    -- C, which isn't compared, at its lo; and no room for three
    ∷ case 14 (least (abc 1) (to_column A Less B ∷ []) (some (pos 0 ∷ pos 1 ∷ pos 0 ∷ [])))
    ∷ case 14 (least (abc 1) (to_column A Less B ∷ to_column B Less C ∷ []) none)
    -- B and C aren't stored, and change together
    ∷ case 15 (kind (job (abc 9) (over0 (A ∷ []) (one (to_column B Equal C ∷ []))) (over0 (A ∷ []) (one (to_number B Equal 0 ∷ to_column B Equal C ∷ [])))) 3)
    ∷ []
