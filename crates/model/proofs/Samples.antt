-- Samples over tiny bounds, which the checker computes from the definitions: what a wrong definition would say otherwise.
-- Assumes nothing.
use mathlib.Core.Path.{◌≡◌, refl}
use mathlib.Core.Bool.{Bool, true, false, not, ◌&&◌, xor}
use mathlib.Core.List.{List, [], ◌∷◌, map}
use mathlib.Core.Option.{none, some}
use Prim.Native.Nat.{ℕ, zero, suc}
use lib.IntN.{ℤ, pos, negsuc}
use lib.ListN.{replicate}
use lib.Dec.{T, eqb}
use Rattle.base.specs.Lists.{all_of}
use Rattle.words.specs.declared.Op.{Op}
use Rattle.words.specs.declared.Op.TheVariants.{Less, Equal, More}
use Rattle.model.specs.Tables.{rows_of, uses, Row, OutputRow, outputs_of, Table, meets, condition_holds, clause_holds, Job, column, number, Condition, Expression, Comparison, TableRow, table_of}
use Rattle.model.specs.declared.Bounds.{Bounds}
use Rattle.model.specs.WellFormed.{limited, expression_formed, condition_limited, structured, well_formed}
use Rattle.model.specs.Rows.{two_rows, values_of, some_row}
use Rattle.model.specs.Least.{least_row, is_least}
use Rattle.model.specs.Verdict.{witness2, kind_of, kind4, tables_differ, unfixing, kind2, fixed, alike_in_extract, witness3, kind1, uses_other, listing_of, extract_rows, kind3, witness4, query_rows}
use Rattle.model.specs.Pair.{row_database, reduced_database}
use Rattle.model.specs.Running.{fill_of, stands_in, run_of, given}

-- ---- two tables: columns 0 and 1, and column 2

abbrev bounded : ℤ → ℤ → Bounds
bounded a b = record { lo = a; hi = b }

abbrev bits : Bounds
bits = bounded (pos 0) (pos 1)

abbrev two : List Table
two = (bits ∷ bits ∷ []) ∷ (bits ∷ []) ∷ []

-- four of one column each
abbrev four : List Table
four = replicate 4 (bits ∷ [])

abbrev against : Op → ℕ → ℕ → Comparison
against o c d = record { op = o; left = c; right = column d }

abbrev above : ℕ → ℤ → Comparison
above c n = record { op = More; left = c; right = number n }

abbrev is : ℕ → ℤ → Comparison
is c n = record { op = Equal; left = c; right = number n }

abbrev all : Condition
all = [] ∷ []

abbrev over : List ℕ → List ℕ → Condition → Expression
over ts cs k = record { used = ts; outputs = cs; condition = k }

abbrev table0 : List ℕ → Condition → Expression
table0 cs k = over (0 ∷ []) cs k

abbrev plain : Expression
plain = table0 (0 ∷ []) all

-- column 0 of both tables' product
abbrev product : Condition → Expression
product k = over (0 ∷ 1 ∷ []) (0 ∷ []) k

abbrev job : List Table → Expression → Expression → Job
job ts e q = record { tables = ts; extract = e; query = q }

-- the table of each column, and of one that isn't declared
column_tables : map (table_of two) (0 ∷ 1 ∷ 2 ∷ 3 ∷ []) ≡ 0 ∷ 0 ∷ 1 ∷ 2 ∷ []
column_tables = refl

-- ---- well formed, and one rule broken at a time

record Sample : Type 0 where
  it : Job
  structure : Bool
  limits : Bool

abbrev sample : Bool → Bool → Job → Sample
sample s l j = record { it = j; structure = s; limits = l }

-- an expression, as the extract and as the query
abbrev both : Bool → Bool → Expression → List Sample
both s l e = sample s l (job two e plain) ∷ sample s l (job two plain e) ∷ []

-- declared tables
abbrev tables : Bool → Bool → List Table → List Sample
tables s l ts = sample s l (job ts plain plain) ∷ []

samples : List (List Sample)
samples =
    both true true plain
    ∷ both true true (over (0 ∷ 1 ∷ []) (2 ∷ 0 ∷ []) [])
    ∷ both true true (over (1 ∷ []) (2 ∷ []) ((against Less 2 2 ∷ above 2 (pos 1000000) ∷ above 2 (negsuc 999999) ∷ []) ∷ [] ∷ []))
    -- no used table, one that isn't declared, two that don't ascend
    ∷ both false true (over [] (0 ∷ []) [])
    ∷ both false true (over (0 ∷ 2 ∷ []) (0 ∷ []) [])
    ∷ both false true (over (1 ∷ 0 ∷ []) (0 ∷ []) [])
    ∷ both false true (over (0 ∷ 0 ∷ []) (0 ∷ []) [])
    ∷ both false true (over (0 ∷ 1 ∷ 1 ∷ []) (0 ∷ []) [])
    -- no output, one twice, one that isn't declared, one of a table that isn't used
    ∷ both false true (table0 [] [])
    ∷ both false true (table0 (1 ∷ 0 ∷ 1 ∷ []) [])
    ∷ both false true (table0 (0 ∷ 1 ∷ 1 ∷ []) [])
    ∷ both false true (over (0 ∷ 1 ∷ []) (3 ∷ []) [])
    ∷ both false true (table0 (2 ∷ []) [])
    -- the same of either side of a comparison
    ∷ both false true (over (0 ∷ 1 ∷ []) (0 ∷ []) ((against Less 3 0 ∷ []) ∷ []))
    ∷ both false true (table0 (0 ∷ []) ((against Less 2 0 ∷ []) ∷ []))
    ∷ both false true (table0 (0 ∷ []) ([] ∷ (against Less 0 1 ∷ against Less 0 2 ∷ []) ∷ []))
    -- four clauses of six comparisons; five clauses, seven comparisons, a number out of range
    ∷ both true true (table0 (0 ∷ []) (replicate 4 (replicate 6 (against Less 0 1))))
    ∷ both true false (table0 (0 ∷ []) (replicate 5 []))
    ∷ both true false (table0 (0 ∷ []) ([] ∷ replicate 7 (against Less 0 1) ∷ []))
    ∷ both true false (table0 (0 ∷ []) ([] ∷ (against Less 0 1 ∷ above 0 (pos 1000001) ∷ []) ∷ []))
    ∷ both true false (table0 (0 ∷ []) ([] ∷ (against Less 0 1 ∷ above 0 (negsuc 1000000) ∷ []) ∷ []))
    -- no table, a table without columns, lo above hi, lo equal to hi
    ∷ tables false false []
    ∷ tables false true ((bits ∷ []) ∷ [] ∷ [])
    ∷ tables false true ((bits ∷ bounded (pos 1) (pos 0) ∷ []) ∷ [])
    ∷ tables true true ((bits ∷ bounded (pos 7) (pos 7) ∷ []) ∷ [])
    -- four tables of four columns at the limits; five tables, 17 columns in all, bounds out of range
    ∷ tables true true (replicate 4 (replicate 4 (bounded (negsuc 999999) (pos 1000000))))
    ∷ tables true true (replicate 16 bits ∷ [])
    ∷ tables true true (replicate 4 (bounded (negsuc 999999) (negsuc 999998) ∷ []))
    ∷ (sample true true (job four (over (0 ∷ 2 ∷ 3 ∷ []) (3 ∷ 0 ∷ 2 ∷ []) all) (over (0 ∷ 1 ∷ 2 ∷ 3 ∷ []) (3 ∷ 2 ∷ 1 ∷ 0 ∷ []) ((against Less 3 2 ∷ []) ∷ []))) ∷ [])
    ∷ tables true false (replicate 5 (bits ∷ []))
    ∷ tables true false (replicate 9 bits ∷ replicate 8 bits ∷ [])
    ∷ tables true false ((bits ∷ []) ∷ (bits ∷ bounded (negsuc 1000000) (pos 0) ∷ []) ∷ [])
    ∷ tables true false ((bits ∷ []) ∷ (bits ∷ bounded (pos 0) (pos 1000001) ∷ []) ∷ [])
    ∷ []

right : Sample → Bool
right s = not (xor (structured s.it) s.structure) && not (xor (limited s.it) s.limits)

well_formed_samples : T (all_of (all_of right) samples)
unfolding samples right xor structured limited expression_formed condition_limited uses
well_formed_samples = tt

-- ---- kinds, with the listing of each column

-- column 1 is known where column 0 is 1, and free where it is 0
abbrev partly : Condition
partly = (is 0 (pos 1) ∷ is 1 (pos 1) ∷ []) ∷ (is 0 (pos 0) ∷ []) ∷ []

-- arm, tool and error
abbrev checks : List Table
checks = (bits ∷ bits ∷ bits ∷ []) ∷ []

abbrev one_tool : Expression
one_tool = table0 (0 ∷ 2 ∷ []) ((is 1 (pos 1) ∷ []) ∷ [])

record Verdict : Type 0 where
  of : Job
  kind : ℕ
  listing : List ℕ

abbrev verdict : ℕ → List ℕ → Job → Verdict
verdict k l j = record { of = j; kind = k; listing = l }

verdicts : List Verdict
verdicts =
    verdict 0 (1 ∷ 3 ∷ 0 ∷ []) (job two plain plain)
    -- the README's example: arm and error of one tool, where the tool isn't stored, and where it is
    ∷ verdict 3 (1 ∷ 3 ∷ 1 ∷ []) (job checks (table0 (0 ∷ 2 ∷ []) all) one_tool)
    ∷ verdict 0 (1 ∷ 1 ∷ 1 ∷ []) (job checks (table0 (0 ∷ 1 ∷ 2 ∷ []) all) one_tool)
    -- tables that only one expression uses, or none
    ∷ verdict 0 (0 ∷ 3 ∷ 0 ∷ 1 ∷ []) (job four (over (1 ∷ 3 ∷ []) (3 ∷ []) all) (over (1 ∷ 3 ∷ []) (3 ∷ []) all))
    ∷ verdict 1 (1 ∷ 0 ∷ 0 ∷ 0 ∷ []) (job four plain (over (1 ∷ []) (1 ∷ []) all))
    -- the third clause counts, and the third comparison
    ∷ verdict 0 (1 ∷ 3 ∷ 0 ∷ []) (job two (table0 (0 ∷ []) ((against Less 0 0 ∷ []) ∷ (against Less 0 0 ∷ []) ∷ [] ∷ [])) plain)
    ∷ verdict 0 (1 ∷ 2 ∷ 0 ∷ []) (job two (table0 (0 ∷ []) []) (table0 (0 ∷ []) ((against Equal 0 0 ∷ against Equal 0 0 ∷ against Less 0 0 ∷ []) ∷ [])))
    -- the query uses more, the extract uses more; never met
    ∷ verdict 1 (1 ∷ 3 ∷ 0 ∷ []) (job two plain (product all))
    ∷ verdict 1 (1 ∷ 3 ∷ 3 ∷ []) (job two (product all) plain)
    ∷ verdict 0 (1 ∷ 3 ∷ 0 ∷ []) (job two plain (product []))
    -- more than one kind applies: 1 before 2 (and 2 listed where no row meets the extract), 2 before 3, 3 before 4
    ∷ verdict 1 (1 ∷ 2 ∷ 0 ∷ []) (job two (table0 (0 ∷ []) []) (product all))
    ∷ verdict 2 (1 ∷ 3 ∷ 0 ∷ []) (job two (table0 (0 ∷ []) ((is 0 (pos 0) ∷ []) ∷ [])) (table0 (0 ∷ []) ((is 1 (pos 0) ∷ []) ∷ [])))
    ∷ verdict 3 (1 ∷ 3 ∷ 3 ∷ []) (job two (product all) (over (0 ∷ 1 ∷ []) (2 ∷ []) ((is 1 (pos 0) ∷ []) ∷ [])))
    -- the query is wider, and narrower; at the highest value of bounds across zero
    ∷ verdict 2 (1 ∷ 3 ∷ 0 ∷ []) (job two (table0 (0 ∷ []) ((above 0 (pos 0) ∷ []) ∷ [])) plain)
    ∷ verdict 0 (1 ∷ 3 ∷ 0 ∷ []) (job two plain (table0 (0 ∷ []) ((above 0 (pos 0) ∷ []) ∷ [])))
    ∷ verdict 2 (1 ∷ []) (job ((bounded (negsuc 0) (pos 1) ∷ []) ∷ []) (table0 (0 ∷ []) ((is 0 (pos 0) ∷ []) ∷ [])) (table0 (0 ∷ []) ((above 0 (pos 0) ∷ []) ∷ [])))
    -- two hidden columns that only change together (case 15)
    ∷ verdict 3 (1 ∷ 3 ∷ 3 ∷ []) (job two (product ((against Equal 1 2 ∷ []) ∷ [])) (product ((is 1 (pos 0) ∷ against Equal 1 2 ∷ []) ∷ [])))
    -- a hidden output: free, with one value only, fixed by the condition, known where the query asks (case 9)
    ∷ verdict 4 (1 ∷ 3 ∷ 0 ∷ []) (job two plain (table0 (1 ∷ []) all))
    ∷ verdict 0 (1 ∷ 2 ∷ []) (job ((bits ∷ bounded (pos 1) (pos 1) ∷ []) ∷ []) plain (table0 (1 ∷ []) all))
    ∷ verdict 0 (1 ∷ 2 ∷ 0 ∷ []) (job two (table0 (0 ∷ []) ((against Less 0 1 ∷ []) ∷ [])) (table0 (1 ∷ []) ((against Less 0 1 ∷ []) ∷ [])))
    ∷ verdict 0 (1 ∷ 3 ∷ 0 ∷ []) (job two (table0 (0 ∷ []) partly) (table0 (1 ∷ []) ((is 0 (pos 1) ∷ is 1 (pos 1) ∷ []) ∷ [])))
    ∷ []

-- each column's listing is the one that stands there
listed : Job → ℕ → List ℕ → Bool
unfolding listing_of fixed unfixing alike_in_extract uses two_rows some_row values_of meets outputs_of condition_holds clause_holds
listed j c [] = true
listed j c (l ∷ ls) = eqb (listing_of j c) l && listed j (suc c) ls

judged : Verdict → Bool
unfolding well_formed structured limited expression_formed condition_limited kind_of kind1 kind2 kind3 kind4 tables_differ uses_other witness2 witness3 witness4 listed
judged v = well_formed v.of && eqb (kind_of v.of) v.kind && listed v.of 0 v.listing

verdict_samples : T (all_of judged verdicts)
unfolding verdicts judged
verdict_samples = tt

-- ---- the two databases of kind 1, with the rows of both expressions on each

zeros : Row
zeros = pos 0 ∷ pos 0 ∷ pos 0 ∷ []

rows : Job → List (List (List OutputRow))
rows j = map (λ d. extract_rows j d ∷ query_rows j d ∷ []) (row_database j zeros ∷ reduced_database j zeros ∷ [])

-- the extract uses a further table: no extract row on either
extract_more : rows (job two (product all) plain) ≡ ([] ∷ ((pos 0 ∷ []) ∷ []) ∷ []) ∷ ([] ∷ [] ∷ []) ∷ []
unfolding rows zeros extract_rows query_rows row_database reduced_database uses_other uses rows_of meets outputs_of condition_holds clause_holds
extract_more = refl

-- the query uses a further table: the same extract row on both
query_more : rows (job two plain (product all)) ≡ (((pos 0 ∷ []) ∷ []) ∷ ((pos 0 ∷ []) ∷ []) ∷ []) ∷ (((pos 0 ∷ []) ∷ []) ∷ [] ∷ []) ∷ []
unfolding rows zeros extract_rows query_rows row_database reduced_database uses_other uses rows_of meets outputs_of condition_holds clause_holds
query_more = refl

-- ---- least rows (case 14)

least : least_row (bits ∷ bits ∷ bits ∷ []) (against Less 0 1 ∷ []) ≡ some (pos 0 ∷ pos 1 ∷ pos 0 ∷ [])
unfolding least_row is_least clause_holds some_row values_of
least = refl

no_least : least_row (bits ∷ bits ∷ bits ∷ []) (against Less 0 1 ∷ against Less 1 2 ∷ []) ≡ none
unfolding least_row is_least clause_holds some_row values_of
no_least = refl

-- ---- the order of rows

-- the lowest table changes slowest, repeats are dropped where they appear again, and so is what doesn't meet the condition
ranges : ℕ → List TableRow
ranges zero = (pos 1 ∷ pos 0 ∷ []) ∷ (pos 0 ∷ pos 0 ∷ []) ∷ (pos 0 ∷ pos 1 ∷ []) ∷ (pos 1 ∷ pos 0 ∷ []) ∷ []
ranges (suc t) = (pos 0 ∷ []) ∷ (pos 1 ∷ []) ∷ []

fill_order : fill_of (job two (over (0 ∷ 1 ∷ []) (2 ∷ 0 ∷ 1 ∷ []) ((is 1 (pos 0) ∷ []) ∷ [])) plain) ranges
    ≡ (pos 0 ∷ pos 1 ∷ pos 0 ∷ [])
    ∷ (pos 1 ∷ pos 1 ∷ pos 0 ∷ [])
    ∷ (pos 0 ∷ pos 0 ∷ pos 0 ∷ [])
    ∷ (pos 1 ∷ pos 0 ∷ pos 0 ∷ [])
    ∷ []
unfolding fill_of extract_rows rows_of uses meets outputs_of clause_holds condition_holds ranges
fill_order = refl

-- stored rows in their order; one that gives nothing, and one that gives a row again, are passed over
run_order : run_of (job two (table0 (0 ∷ 1 ∷ []) all) (table0 (0 ∷ []) ((above 1 (pos 0) ∷ []) ∷ [])))
    ((pos 1 ∷ pos 0 ∷ []) ∷ (pos 1 ∷ pos 1 ∷ []) ∷ (pos 0 ∷ pos 1 ∷ []) ∷ (pos 1 ∷ pos 1 ∷ []) ∷ (pos 0 ∷ pos 1 ∷ []) ∷ [])
    ≡ (pos 1 ∷ []) ∷ (pos 0 ∷ []) ∷ []
unfolding run_of given stands_in values_of uses meets outputs_of clause_holds condition_holds
run_order = refl
