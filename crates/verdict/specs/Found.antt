-- The kind of a job and the columns that aren't fixed, by searches over its rows and over two rows as one.
use Rattle.std.specs.Prelude.{Bool, false, cond, ◌&&◌, List, ℕ, length}
use Rattle.std.proofs.Math.Option.{Option, none}
use Rattle.base.specs.Options.{is_some, or_else}
use Rattle.model.specs.Tables.{Condition, Job}
use Rattle.model.specs.declared.Bounds.{Bounds}
use Rattle.model.specs.Verdict.{columns, tables_differ, first_kind}
use Rattle.zone.specs.Zone.{Zone}
use Rattle.solver.specs.Solver.{box_of}
use Rattle.conditions.specs.Meeting.{met, pairs_of, always}
use Rattle.breaking.specs.Breaking.{choices_of}
use Rattle.search.specs.Search.{outside}
use Rattle.twins.specs.Pairs.{some_apart, if_differ}
use Rattle.twins.specs.Twins.{twin_of, twin_bounds, renamed}

-- ---- Among the rows of a zone

-- rows that meet two conditions and not a third
abbrev pub without : Zone → Condition → Condition → Condition → Option Zone
without z a b k = outside z a b (length k) (choices_of k)

module _ (z : Zone) (differ : Bool) (keeps wants : Condition) where
  -- kinds 1 and 2: rows that the query wants, where the tables differ; or that the extract doesn't keep
  unfoldable pub one_kind : ℕ
  one_kind = first_kind (differ && is_some (met z wants)) (is_some (without z always wants keeps)) false false

  unfoldable pub one_found : Option Zone
  one_found = or_else (cond differ (met z wants) none) (without z always wants keeps)

module _ (z : Zone) (keeps wants others : Condition) (apart : Zone → Option Zone) where
  -- kinds 3 and 4: the query wants the first of two rows and not the second; or both, and they are apart
  unfoldable pub two_kind : ℕ
  two_kind = first_kind false false (is_some (without z keeps wants others)) (is_some (pairs_of z wants others apart))

  unfoldable pub two_found : Option Zone
  two_found = or_else (without z keeps wants others) (pairs_of z wants others apart)

-- ---- Of a job
module _ (j : Job) where
  -- ---- Two rows that agree in the stored columns, as one

  -- where the second row's value in a column stands
  abbrev pub twin : ℕ → ℕ
  twin = twin_of (length (columns j)) j.extract.outputs

  abbrev pub both_bounds : List Bounds
  both_bounds = twin_bounds (length (columns j)) j.extract.outputs (columns j)

  -- ---- The conditions, of the first row and of the second

  -- the extract keeps the row
  abbrev pub keeps_one : Condition
  keeps_one = j.extract.condition

  abbrev pub keeps_other : Condition
  keeps_other = renamed twin keeps_one

  -- the query wants it
  abbrev pub wants_one : Condition
  wants_one = j.query.condition

  abbrev pub wants_other : Condition
  wants_other = renamed twin wants_one

  -- ---- The searches

  -- every row, and every two rows as one
  abbrev pub box : Zone
  box = box_of (columns j)

  abbrev pub box2 : Zone
  box2 = box_of both_bounds

  -- rows that the query wants
  unfoldable pub found1 : Option Zone
  found1 = met box wants_one

  -- and that the extract doesn't keep
  unfoldable pub found2 : Option Zone
  found2 = without box always wants_one keeps_one

  -- where that finds none: two rows of which the query wants only the first, while the extract keeps the second too
  unfoldable pub found3 : Option Zone
  found3 = without box2 keeps_other wants_one wants_other

  -- two that the query wants, with different values in an output
  unfoldable pub found4 : Option Zone
  found4 = pairs_of box2 wants_one wants_other (some_apart twin j.query.outputs)

  -- two that the extract keeps have different values in column c
  unfoldable pub unfixed_in : ℕ → Bool
  unfixed_in c = is_some (pairs_of box2 keeps_one keeps_other (if_differ c (twin c)))

  -- ---- The kind, and the zone of the rows that show it

  unfoldable pub found_kind : ℕ
  found_kind = first_kind (tables_differ j && is_some found1) (is_some found2) (is_some found3) (is_some found4)

  unfoldable pub finding : Option Zone
  finding = or_else (cond (tables_differ j) found1 none) (or_else found2 (or_else found3 found4))
