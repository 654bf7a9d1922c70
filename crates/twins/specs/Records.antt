-- Two rows as one, and conditions with their columns named anew, as the code holds them.
use Rattle.std.specs.Prelude.{Bool, cond, List, map, ℕ, ◌+◌, ◌-◌, length, set, pos, eqb}
use Rattle.base.specs.Lists.{tabulate, at}
use Rattle.base.specs.Arrays.{padded}
use Rattle.model.specs.declared.Bounds.{Bounds}
use Rattle.job.specs.declared.Comparison.{Comparison}
use Rattle.job.specs.declared.Clause.{Clause}
use Rattle.job.specs.declared.Condition.{Condition}
use Rattle.twins.specs.declared.TwinRows.{TwinRows}
use Rattle.twins.specs.Twins.{twin_of, twin_bounds}

-- ---- Two rows as one

-- what stands behind the bounds of the columns that there are
abbrev pub no_bounds : Bounds
no_bounds = record { lo = pos 0; hi = pos 0 }

-- columns with these bounds, and where the second row's values of the first columns stand
unfoldable pub twins_of : List Bounds → List ℕ → TwinRows
twins_of bs ts = record {
  columns = length bs;
  twin = padded 16 0 ts;
  bounds = padded 32 no_bounds bs;
}

-- with one column more
abbrev pub column_more : TwinRows → Bounds → TwinRows
column_more t b = record { columns = t.columns + 1; twin = t.twin; bounds = set t.bounds t.columns b }

-- with the place of the second row's value of column c
abbrev pub twin_more : TwinRows → ℕ → ℕ → TwinRows
twin_more t c v = record { columns = t.columns; twin = set t.twin c v; bounds = t.bounds }

-- column c of the second row: where it isn't stored, it is one column more
abbrev pub taken : TwinRows → ℕ → Bounds → Bool → TwinRows
taken t c b stored = cond stored (twin_more t c c) (column_more (twin_more t c t.columns) b)

-- the two rows within some bounds that agree in the stored columns
unfoldable pub twins_record : List Bounds → List ℕ → TwinRows
twins_record bs stored = twins_of (twin_bounds (length bs) stored bs) (tabulate (length bs) (twin_of (length bs) stored))

-- ---- Conditions with columns named anew: c by what stands at place c

-- a right side: 0 is no column
abbrev pub renamed_right : List ℕ → ℕ → ℕ
renamed_right twin r = cond (eqb r 0) 0 (at twin (r - 1) + 1)

abbrev pub renamed_one : List ℕ → Comparison → Comparison
renamed_one twin k = record { op = k.op; left = at twin k.left; right = renamed_right twin k.right; number = k.number }

abbrev pub renamed_clause : List ℕ → Clause → Clause
renamed_clause twin c = record { size = c.size; comparisons = map (renamed_one twin) c.comparisons }

unfoldable pub renamed_condition : List ℕ → Condition → Condition
renamed_condition twin k = record { size = k.size; clauses = map (renamed_clause twin) k.clauses }
