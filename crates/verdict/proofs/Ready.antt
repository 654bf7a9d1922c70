-- What the searches ask of columns, an extract and a query that reading gives, and what they find there. Assumes nothing.
use mathlib.Core.Path.{◌≡◌, refl, sym, ap, subst, ◌∙◌}
use mathlib.Core.Bool.{Bool, ◌||◌}
use mathlib.Core.List.{List, [], append_assoc}
use mathlib.Core.Option.{Option, none, some}
use Prim.Native.Nat.{ℕ, ◌+◌, ◌*◌, ◌<◌, ◌≤◌}
use native.Mathlib.Omega.{arith}
use lib.ListN.{length, take, get_or-map}
use lib.Seq.{take-append_seam}
use lib.Dec.{T}
use Rattle.base.specs.Lists.{◌∈◌, all_of, at}
use Rattle.base.specs.Options.{and_then, is_some}
use Rattle.base.proofs.Options.{first_cong}
use Rattle.base.proofs.Places.{element}
use Rattle.model.specs.Tables as model
use Rattle.model.specs.declared.Bounds.{Bounds}
use Rattle.model.specs.Verdict.{columns, uses_other, tables_differ}
use Rattle.job.specs.declared.Columns.{Columns}
use Rattle.job.specs.declared.Condition.{Condition}
use Rattle.job.specs.declared.Expression.{Expression}
use Rattle.job.specs.declared.Job.{Job}
use Rattle.job.specs.Record.{no_column}
use Rattle.job.specs.Meaning.{condition_of, expression_of, expression_record, job_of, problem}
use mir.Val.{Val}
use denote.Laws.{Is}
use Rattle.job.specs.contracts.Columns as declared_columns
use Rattle.job.specs.contracts.Expression as expression
use Rattle.job.proofs.Records.{Sized, SizedExpression, sized_columns, sized_expression}
use Rattle.job.proofs.Declared.{width_is, bounds_are, extract_is, query_is}
use Rattle.job.proofs.Counts.{clauses_fit, comparisons_fit, condition_is, tables_below}
use Rattle.zone.specs.Zone.{Zone, columns_of}
use Rattle.solver.specs.Solver.{bounds_fit, box_of, imposed_all}
use Rattle.solver.specs.Uses.{BoundsRoom}
use Rattle.solver.proofs.Formed.{outputs_declared}
use Rattle.conditions.specs.Meeting.{by_clause, met, pairs_of, always}
use Rattle.conditions.specs.Uses.{condition_fits, Small, ConditionFits}
use Rattle.conditions.proofs.Stands.{Stands}
use Rattle.twins.specs.declared.TwinRows.{TwinRows}
use Rattle.twins.specs.Pairs.{apart, some_apart, if_differ}
use Rattle.twins.specs.Twins.{twin_bounds, renamed}
use Rattle.twins.specs.Records.{twins_of, twins_record, renamed_clause, renamed_condition}
use Rattle.twins.specs.Uses.{Paired, Partners, Renames, Marks}
use Rattle.twins.proofs.Twinned.{record_columns, record_bounds, twin_at, twin_names, twins_stand}
use Rattle.twins.proofs.Names.{compares, twins_renamed}
use Rattle.databases.specs.Uses.{TablesFew, HasLeast, PairsOne, PairsTwo}
use Rattle.verdict.specs.Found.{without, twin, both_bounds, keeps_one, keeps_other, wants_one, wants_other, box, box2, found1, found2, found3, found4, unfixed_in}
use Rattle.verdict.specs.Uses.{FindsOne, FindsTwo, Given, Decides, both_rows}
use Rattle.verdict.proofs.Limits.{taken, both_fit, both_most, keeps_one_lem, keeps_other_lem, wants_one_lem, wants_other_lem, first_most, column_below, twin_below}
use Rattle.verdict.proofs.Decided.{every, one, two}

-- ---- searches with another function that agrees
clauses_cong : (z : Zone) (k : model.Condition) (f g : Zone → Option Zone) → ((y : Zone) → f y ≡ g y) → by_clause z k f ≡ by_clause z k g
clauses_cong z k f g h = first_cong (λ c. and_then (imposed_all z c) f) (λ c. and_then (imposed_all z c) g) k (λ c m. go (imposed_all z c))
  where
    go : (o : Option Zone) → and_then o f ≡ and_then o g
    go none = refl
    go (some y) = h y

pairs_cong : (z : Zone) (k l : model.Condition) (f g : Zone → Option Zone) → ((y : Zone) → f y ≡ g y) → pairs_of z k l f ≡ pairs_of z k l g
unfolding pairs_of
pairs_cong z k l f g h = clauses_cong z k (λ y. by_clause y l f) (λ y. by_clause y l g) (λ y. clauses_cong y l f g h)

apart_cong : (f g : ℕ → ℕ) (cs : List ℕ) → ((c : ℕ) → c ∈ cs → f c ≡ g c) → (z : Zone) → some_apart f cs z ≡ some_apart g cs z
unfolding some_apart
apart_cong f g cs h z = first_cong (λ c. apart c (f c) z) (λ c. apart c (g c) z) cs (λ c m. ap (λ (d : ℕ). apart c d z) (h c m))

-- ---- conditions
renamed_small : (t : List ℕ) (k : Condition) → Small k → Small (renamed_condition t k)
unfolding renamed_condition
renamed_small t k s = record {
  clauses = s.clauses;
  comparisons = λ q h. rw (get_or-map (renamed_clause t) k.clauses q (record { size = 0; comparisons = [] })) (s.comparisons q h);
}

-- ---- the bounds of the first row
first_bounds : (bs : List Bounds) (stored : List ℕ) → take (length bs) (twins_record bs stored).bounds ≡ bs
unfolding twins_record twins_of twin_bounds
first_bounds bs stored = rw append_assoc (take-append_seam bs _)

-- ---- the arrays of the records have their lengths
pub sizes : {k : Columns} {extract query : Expression} {us vs ws : List Val} {Rest : Type 0}
    → Is declared_columns.the_row k us × (Is expression.the_row extract vs × (Is expression.the_row query ws × Rest)) → Sized (problem k extract query)
sizes {k} {extract} {query} {us} {vs} {ws} are = record {
  columns = sized_columns k us are.0;
  extract = sized_expression extract vs are.1.0;
  query = sized_expression query ws are.1.1.0;
}

-- what counts of an expression's condition has room in its record
small_in : (e : model.Expression) (x : Expression) → x ≡ expression_record e → SizedExpression x → Small x.condition
small_in e x laid size =
    let is = condition_is e x laid size in
    record {
      clauses = clauses_fit e.condition x.condition is size.condition;
      comparisons = comparisons_fit e.condition x.condition is size.condition;
    }

-- ---- columns, an extract and a query that reading gives, with two rows as one
module _ {k : Columns} {extract query : Expression} {rows : TwinRows} (u : Decides k extract query rows) (size : Sized (problem k extract query)) where
  abbrev j : model.Job
  j = job_of k extract query

  abbrev g : Given k extract query
  g = u.given

  abbrev are : rows ≡ both_rows k extract
  are = u.both

  abbrev r : Job
  r = problem k extract query

  pub both_is : rows ≡ twins_record (columns (job_of k extract query)) (job_of k extract query).extract.outputs
  unfolding job_of expression_of
  both_is = are ∙ ap (λ (bs : List Bounds). twins_record bs (take extract.width extract.outputs)) (bounds_are r g.laid)

  pub columns_is : rows.columns ≡ length (both_bounds (job_of k extract query))
  columns_is = rw both_is (record_columns (columns j) j.extract.outputs)

  pub width_of : k.width ≡ length (columns (job_of k extract query))
  width_of = width_is r g.laid

  pub columns_most : rows.columns ≤ 32
  columns_most = omega (arith, columns_is, both_most j g.formed)

  pub width_most : k.width ≤ 16
  width_most = omega (arith, width_of, (taken j g.formed).few_columns)

  pub width_below : k.width ≤ rows.columns
  width_below = omega (arith, width_of, columns_is, first_most j g.formed)

  -- ---- the boxes
  one_listed : take k.width rows.bounds ≡ columns j
  one_listed =
      ap (λ (n : ℕ). take n rows.bounds) width_of
      ∙ ap (λ (t : TwinRows). take (length (columns j)) t.bounds) both_is
      ∙ first_bounds (columns j) j.extract.outputs

  two_listed : take rows.columns rows.bounds ≡ both_bounds j
  two_listed = rw both_is (record_bounds (columns j) j.extract.outputs)

  -- the bounds of n columns are bs
  module _ (n : ℕ) (few : n ≤ 32) (bs : List Bounds) (is : take n rows.bounds ≡ bs) (fit : T (all_of bounds_fit bs)) (same : n ≡ length bs)
      (room_of : ℕ) where
    lays : (n + 1) * 33 ≤ room_of → BoundsRoom room_of (take n rows.bounds)
    lays room = rw is (record { room = omega (arith, same); small = omega (arith, same); fit = fit })

  module _ (room_of : ℕ) (room : (rows.columns + 1) * 33 ≤ room_of) where
    pub one_asks : BoundsRoom room_of (take k.width rows.bounds)
    one_asks = lays k.width (omega (arith, width_most)) (columns j) one_listed (taken j g.formed).bounds width_of room_of (omega (arith, width_below))

    pub two_asks : BoundsRoom room_of (take rows.columns rows.bounds)
    two_asks = lays rows.columns columns_most (both_bounds j) two_listed (both_fit j g.formed) columns_is room_of room

  pub one_box : {b : Zone} → b ≡ box_of (take k.width rows.bounds) → b ≡ box (job_of k extract query)
  one_box left = left ∙ ap box_of one_listed

  pub two_box : {b : Zone} → b ≡ box_of (take rows.columns rows.bounds) → b ≡ box2 (job_of k extract query)
  two_box left = left ∙ ap box_of two_listed

  box_nodes : (bs : List Bounds) {z b : Zone} → Stands bs every z → b ≡ z → (0 < length b) × (columns_of b ≡ length bs)
  box_nodes bs s is = rw is (omega (arith, s.size), omega (arith, s.size))

  -- ---- the conditions
  keeps_is : condition_of extract.condition ≡ keeps_one j
  unfolding job_of expression_of
  keeps_is = refl

  wants_is : condition_of query.condition ≡ wants_one j
  unfolding job_of expression_of
  wants_is = refl

  extract_small : Small extract.condition
  extract_small = small_in j.extract extract (extract_is r g.laid) size.extract

  query_small : Small query.condition
  query_small = small_in j.query query (query_is r g.laid) size.query

  -- a condition that is one of the job's fits the columns that the job's does
  fits : {c : Condition} {n : ℕ} (m : ℕ) → n ≡ m → (k : model.Condition) → condition_of c ≡ k → T (condition_fits m k) → Small c → ConditionFits n c
  fits {c} {n} m same k is fit small = record {
    small = small;
    fit = subst (λ (n : ℕ). T (condition_fits n (condition_of c))) (sym same) (subst (λ (k : model.Condition). T (condition_fits m k)) (sym is) fit);
  }

  pub one_finds : {b : Zone} → b ≡ box (job_of k extract query) → FindsOne b extract.condition query.condition
  one_finds is =
      let nodes = box_nodes (columns j) (one j g.formed) is in
      record {
        some_node = nodes.0;
        searches = record {
          first = fits (length (columns j)) nodes.1 (keeps_one j) keeps_is (taken j g.formed).extract.fit extract_small;
          second = fits (length (columns j)) nodes.1 (wants_one j) wants_is (taken j g.formed).query.fit query_small;
        };
      }

  -- ---- the columns and their twins

  outputs_are : take query.width query.outputs ≡ j.query.outputs
  unfolding job_of expression_of
  outputs_are = refl

  twin_is : (c : ℕ) → c < length (columns j) → at rows.twin c ≡ twin j c
  twin_is c h = ap (λ (t : TwinRows). at t.twin c) both_is ∙ twin_at (columns j) j.extract.outputs c h

  paired : Paired rows.columns k.width rows.twin
  paired = record {
    small = width_most;
    first_in = width_below;
    second_in = λ c h. let l : c < length (columns j) = omega (arith, width_of) in omega (arith, columns_is, twin_is c l, twin_below j g.formed c l);
  }

  partners : Partners rows.columns (take query.width query.outputs) rows.twin
  partners = rw outputs_are (record {
    small = λ i h. omega (arith, declared i h, (taken j g.formed).few_columns);
    first_in = λ i h. omega (arith, columns_is, column_below j g.formed (at j.query.outputs i) (declared i h));
    second_in = λ i h. omega (arith, columns_is, twin_is (at j.query.outputs i) (declared i h), twin_below j g.formed (at j.query.outputs i) (declared i h));
  })
    where
      declared : (i : ℕ) → i < length j.query.outputs → at j.query.outputs i < length (columns j)
      declared i h = outputs_declared (taken j g.formed).query (at j.query.outputs i) (element j.query.outputs i 0 h)

  -- ---- the conditions said of the second row
  few_declared : length (columns j) ≤ 16
  few_declared = (taken j g.formed).few_columns

  pub keeps_renames : Renames extract.condition rows.twin
  keeps_renames = rw both_is (record {
    compares = compares (length (columns j)) few_declared j.extract.condition (taken j g.formed).extract.fit extract.condition
        (condition_is j.extract extract (extract_is r g.laid) size.extract);
    names = twin_names (columns j) j.extract.outputs few_declared;
  })

  pub wants_renames : Renames query.condition rows.twin
  wants_renames = rw both_is (record {
    compares = compares (length (columns j)) few_declared j.query.condition (taken j g.formed).query.fit query.condition
        (condition_is j.query query (query_is r g.laid) size.query);
    names = twin_names (columns j) j.extract.outputs few_declared;
  })

  second : (c : Condition) (k : model.Condition) → condition_of c ≡ k → T (condition_fits (length (columns j)) k)
      → condition_of (renamed_condition rows.twin c) ≡ renamed (twin j) k
  second c k same fit =
      ap (λ (t : TwinRows). condition_of (renamed_condition t.twin c)) both_is
      ∙ twins_renamed (columns j) j.extract.outputs c (subst (λ (k : model.Condition). T (condition_fits (length (columns j)) k)) (sym same) fit)
      ∙ ap (renamed (twin j)) same

  wants_other_is : {wants : Condition} → wants ≡ renamed_condition rows.twin query.condition → condition_of wants ≡ wants_other j
  wants_other_is wanted = ap condition_of wanted ∙ second query.condition (wants_one j) wants_is (taken j g.formed).query.fit

  -- ---- b is the box of two rows as one
  module _ {keeps : Condition} (kept : keeps ≡ renamed_condition rows.twin extract.condition) where
    keeps_other_is : condition_of keeps ≡ keeps_other j
    keeps_other_is = ap condition_of kept ∙ second extract.condition (keeps_one j) keeps_is (taken j g.formed).extract.fit

    module _ {b : Zone} (is : b ≡ box2 (job_of k extract query)) where
      nodes : (0 < length b) × (columns_of b ≡ length (both_bounds j))
      nodes = box_nodes (both_bounds j) (two j g.formed) is

      same_columns : columns_of b ≡ rows.columns
      same_columns = nodes.1 ∙ sym columns_is

      keeps_fits : ConditionFits (columns_of b) keeps
      keeps_fits = fits (length (both_bounds j)) nodes.1 (keeps_other j) keeps_other_is (keeps_other_lem j g.formed)
          (rw kept (renamed_small rows.twin extract.condition extract_small))

      pub two_finds : {wants : Condition} → wants ≡ renamed_condition rows.twin query.condition
          → FindsTwo b rows keeps query.condition wants (take query.width query.outputs)
      two_finds wanted = record {
        finds = record {
          some_node = nodes.0;
          searches = record {
            first = keeps_fits;
            second = fits (length (both_bounds j)) nodes.1 (wants_one j) wants_is (wants_one_lem j g.formed) query_small;
          };
        };
        third = fits (length (both_bounds j)) nodes.1 (wants_other j) (wants_other_is wanted) (wants_other_lem j g.formed)
            (rw wanted (renamed_small rows.twin query.condition query_small));
        partners = rw same_columns partners;
      }

      -- ---- the columns that aren't fixed
      pub marks_two : {w : ℕ} → w ≡ k.width → Marks b extract.condition keeps w rows.twin
      marks_two wide = record {
        searches = record {
          first = fits (length (both_bounds j)) nodes.1 (keeps_one j) keeps_is (keeps_one_lem j g.formed) extract_small;
          second = keeps_fits;
        };
        paired = rw (wide, same_columns) paired;
      }

    pub finds_unfixed : (z : Zone) → z ≡ box2 (job_of k extract query) → (c : ℕ) → c < k.width
        → is_some (pairs_of z (condition_of extract.condition) (condition_of keeps) (if_differ c (at rows.twin c))) ≡ unfixed_in (job_of k extract query) c
    unfolding unfixed_in
    finds_unfixed z is c h = rw (is, keeps_other_is, keeps_is, twin_is c (omega (arith, width_of)))

    module _ {wants : Condition} (wanted : wants ≡ renamed_condition rows.twin query.condition) where
      pub finds_two : (z : Zone) → z ≡ box2 (job_of k extract query)
          → (without z (condition_of keeps) (condition_of query.condition) (condition_of wants) ≡ found3 (job_of k extract query))
          × (pairs_of z (condition_of query.condition) (condition_of wants) (some_apart (at rows.twin) (take query.width query.outputs))
          ≡ found4 (job_of k extract query))
      unfolding found3 found4
      finds_two z is = (
        rw (is, keeps_other_is, wants_other_is wanted, wants_is),
        rw (is, wants_other_is wanted, wants_is, outputs_are) (pairs_cong (box2 j) (wants_one j) (wants_other j) (some_apart (at rows.twin) j.query.outputs)
            (some_apart (twin j) j.query.outputs)
            (apart_cong (at rows.twin) (twin j) j.query.outputs (λ c m. twin_is c (outputs_declared (taken j g.formed).query c m)))),
      )

  pub finds_met : (z : Zone) → z ≡ box (job_of k extract query) → met z (condition_of query.condition) ≡ found1 (job_of k extract query)
  unfolding found1
  finds_met z is = rw (is, wants_is)

  pub finds_one : (z : Zone) → z ≡ box (job_of k extract query)
      → without z always (condition_of query.condition) (condition_of extract.condition) ≡ found2 (job_of k extract query)
  unfolding found2
  finds_one z is = rw (is, wants_is, keeps_is)

  -- ---- what the databases and the listing ask
  few_tables : TablesFew k
  few_tables = record { width = width_most; tables = λ c. tables_below r g.laid c no_column }

  pub pairs_one : {z : Zone} → columns_of z ≡ k.width → HasLeast z → PairsOne k z
  pairs_one same least = record { few = few_tables; first_in = omega (arith, same); least = least }

  pub pairs_two : {z : Zone} → columns_of z ≡ rows.columns → HasLeast z → PairsTwo k rows.twin z
  pairs_two same least =
      let stands = twins_stand (columns j) j.extract.outputs few_declared in
      record {
        few = few_tables;
        first_in = omega (arith, same, width_below);
        second_in = record { few = width_most; stand = λ c h. rw both_is (stands.stand c (omega (arith, width_of))) };
        least = least;
      }

  pub tables_told : {b : Bool} → b ≡ (uses_other (expression_of extract) (expression_of query) || uses_other (expression_of query) (expression_of extract))
      → b ≡ tables_differ (job_of k extract query)
  unfolding tables_differ job_of
  tables_told e = e
