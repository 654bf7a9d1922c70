-- What is handed out for columns, an extract and a query that reading gives, made of the zone that was found. Assumes nothing.
use mathlib.Core.Path.{◌≡◌, refl, sym, ap, ◌∙◌}
use mathlib.Core.Bool.{Bool, true, false, not, cond, ◌&&◌, ◌||◌}
use mathlib.Core.List.{List, ◌++◌}
use mathlib.Core.Option.{Option, none, some}
use Prim.Native.Nat.{ℕ, ◌<◌, ◌≤◌}
use native.Mathlib.Omega.{arith}
use lib.ListN.{length, get_or, replicate, length-replicate, get_or-append}
use lib.Dec.{T}
use borrow.Author.Tests.{le-leb, lt-leb}
use Rattle.base.specs.Options.{is_some, or_else}
use Rattle.base.proofs.Tests.{by_less}
use Rattle.base.proofs.Places.{replicate_at}
use Rattle.model.specs.Tables as model
use Rattle.model.specs.Tables.{Row}
use Rattle.model.specs.WellFormed.{well_formed}
use Rattle.model.specs.Verdict.{columns, tables_differ, first_kind}
use Rattle.job.specs.declared.Columns.{Columns}
use Rattle.job.specs.declared.Expression.{Expression}
use Rattle.job.specs.Meaning.{job_of, problem}
use Rattle.job.proofs.Records.{Sized}
use Rattle.zone.specs.Zone.{Zone, columns_of, least_of}
use Rattle.solver.specs.Solver.{row_of}
use Rattle.conditions.specs.Meeting.{Lies}
use Rattle.conditions.proofs.Stands.{Stands}
use Rattle.twins.specs.declared.TwinRows.{TwinRows}
use Rattle.twins.specs.Marks.{marked}
use Rattle.twins.proofs.Marking.{marked_length, marked_at}
use Rattle.databases.specs.declared.Pair.{Pair}
use Rattle.databases.specs.Databases.{least_in, pair_record}
use Rattle.databases.specs.Listing.{listed_by}
use Rattle.databases.specs.Uses.{HasLeast, PairsBy}
use Rattle.databases.proofs.Rows.{first_by, second_by}
use Rattle.databases.proofs.Pairing.{least_size}
use Rattle.databases.proofs.Pairs.{shown_columns, pair_none, pair_shows}
use Rattle.databases.proofs.Listing.{listing_is}
use Rattle.verdict.specs.Found.{both_bounds, found1, found2, found3, found4, found_kind, finding, unfixed_in}
use Rattle.verdict.specs.Uses.{Given, Decides}
use Rattle.verdict.specs.Verdict.{listing_record, HandsOut}
use Rattle.verdict.proofs.Rows.{least_found, first_handed, second_handed}
use Rattle.verdict.proofs.Limits.{taken, both_near}
use Rattle.verdict.proofs.Decided.{kind_1_zone, kind_2_zone, kind_3_zone, kind_4_zone, kind_found, fixed_found}
use Rattle.verdict.proofs.Handed.{handed_as, handed}
use Rattle.verdict.proofs.Rooms.{least_words}
use Rattle.verdict.proofs.Told.{Told}
use Rattle.verdict.proofs.Ready.{both_is, columns_is, width_of, pairs_one, pairs_two}

-- ---- the zone that was found is one of rows of the job, or of two as one
module _ (j : model.Job) (w : T (well_formed j)) where
  -- k is the kind, o what was found
  pub record Shown (k : ℕ) (o : Option Zone) : Type 0 where
    pub zone : Zone
    pub is : o ≡ some zone
    pub one : k ≤ 2 → (u : Row → Bool) × Stands (columns j) u zone
    pub two : 2 < k → (u : Row → Bool) × Stands (both_bounds j) u zone

  later : (a b c : Option Zone) → found2 j ≡ a → found3 j ≡ b → found4 j ≡ c → 0 < first_kind false (is_some a) (is_some b) (is_some c)
      → Shown (first_kind false (is_some a) (is_some b) (is_some c)) (or_else a (or_else b c))
  later (some y) b c e f g h =
      let s = rw e at (kind_2_zone j w) in
      record { zone = y; is = refl; one = λ _. (s.0, s.1); two = λ l. absurd (omega arith) }
  later none (some y) c e f g h =
      let s = rw f at (kind_3_zone j w) in
      record { zone = y; is = refl; one = λ l. absurd (omega arith); two = λ _. (s.0, s.1) }
  later none none (some y) e f g h =
      let s = rw g at (kind_4_zone j w) in
      record { zone = y; is = refl; one = λ l. absurd (omega arith); two = λ _. (s.0, s.1) }
  later none none none e f g h = absurd (omega arith)

  by_finding : (d : Bool) (o : Option Zone) → found1 j ≡ o
      → 0 < first_kind (d && is_some o) (is_some (found2 j)) (is_some (found3 j)) (is_some (found4 j))
      → Shown (first_kind (d && is_some o) (is_some (found2 j)) (is_some (found3 j)) (is_some (found4 j)))
      (or_else (cond d o none) (or_else (found2 j) (or_else (found3 j) (found4 j))))
  by_finding true (some y) e h =
      let s = rw e at (kind_1_zone j w) in
      record { zone = y; is = refl; one = λ _. (s.0, s.1); two = λ l. absurd (omega arith) }
  by_finding true none e h = later (found2 j) (found3 j) (found4 j) refl refl refl h
  by_finding false o e h = later (found2 j) (found3 j) (found4 j) refl refl refl h

  pub found_shown : 0 < found_kind j → Shown (found_kind j) (finding j)
  unfolding found_kind finding
  found_shown = by_finding (tables_differ j) (found1 j) refl

-- ---- what is made of it
module _ {k : Columns} {extract query : Expression} {rows : TwinRows} (u : Decides k extract query rows) (size : Sized (problem k extract query))
    (out : Zone) (lies : Lies (finding (job_of k extract query)) out) where
  abbrev j : model.Job
  j = job_of k extract query

  abbrev g : Given k extract query
  g = u.given

  abbrev shown : ℕ
  shown = shown_columns k rows (found_kind j)

  module _ (h : 0 < found_kind j) where
    s : Shown j g.formed (found_kind j) (finding j)
    s = found_shown j g.formed h

    there : out ≡ s.zone
    there = lies s.zone s.is

    of_one : found_kind j ≤ 2 → HasLeast out × (columns_of out ≡ k.width)
    of_one l =
        let (p, stands) = s.one l in
        let few : columns_of s.zone ≡ length (columns j) = omega (arith, stands.size) in
        rw there (λ row e. least_words (columns j) p s.zone stands (taken j g.formed).range row (e ∙ few), few ∙ sym (width_of u size))

    of_two : 2 < found_kind j → HasLeast out × (columns_of out ≡ rows.columns)
    of_two l =
        let (p, stands) = s.two l in
        let few : columns_of s.zone ≡ length (both_bounds j) = omega (arith, stands.size) in
        rw there (λ row e. least_words (both_bounds j) p s.zone stands (both_near j g.formed) row (e ∙ few), few ∙ sym (columns_is u size))

    -- the row that is read is the least one of what was found
    row_shown : (length (least_in out) ≡ shown) × (least_in out ≡ least_found (finding j))
    row_shown = (
      by_less (found_kind j) 3
          (λ l. least_size out ∙ (of_one (omega arith)).1 ∙ rw (le-leb (found_kind j) 2 (omega arith)))
          (λ l. least_size out ∙ (of_two (omega arith)).1 ∙ rw (lt-leb (found_kind j) 2 (omega arith))),
      ap (λ (z : Zone). row_of (least_of z)) there ∙ sym (ap least_found s.is),
    )

  pairs_by : PairsBy k rows.twin (found_kind j) out
  pairs_by = record {
    one = λ h l. let (least, same) = of_one h (omega arith) in pairs_one u size same least;
    two = λ l. let (least, same) = of_two (omega arith) (omega arith) in pairs_two u size same least;
  }

  -- with no kind nothing is read of the row
  nothing_shown : (kind : ℕ) → kind ≡ 0 → (a b : Row) → (first_by j kind a ≡ first_by j kind b) × (second_by j kind a ≡ second_by j kind b)
  unfolding first_by second_by
  nothing_shown kind e a b = rw e (refl, refl)

  hands_out : {p : Pair} → p ≡ pair_record k extract query rows.twin (found_kind j) (least_in out) → HandsOut k extract query p.first p.second
  unfolding first_handed second_handed
  hands_out is =
      let twins = both_is u size in
      let row = least_in out in
      let shows = pair_shows k extract query g.laid g.formed (found_kind j) row (λ h. (row_shown h).0 ∙ ap (λ (t : TwinRows). shown_columns k t (found_kind j)) twins) in
      let (same, same') : (first_by j (found_kind j) row ≡ first_handed j) × (second_by j (found_kind j) row ≡ second_handed j) =
      by_less 0 (found_kind j) (λ h. (ap (first_by j (found_kind j)) (row_shown h).1, ap (second_by j (found_kind j)) (row_shown h).1))
      (λ h. nothing_shown (found_kind j) (omega arith) row (least_found (finding j))) in
      rw (is ∙ ap (λ (t : TwinRows). pair_record k extract query t.twin (found_kind j) row) twins) (record {
        with_0 = λ e. pair_none k extract query _ (found_kind j) row (sym (kind_found j g.formed) ∙ e);
        handed = handed_as j (λ t _. shows.first t ∙ ap (λ (d : model.Database). d t) same)
            (λ t _. shows.second t ∙ ap (λ (d : model.Database). d t) same') (handed j g.formed);
        first_tidy = shows.first_tidy;
        second_tidy = shows.second_tidy;
      })

-- ---- with the kind that the code has
module _ {k : Columns} {extract query : Expression} {rows : TwinRows} (u : Decides k extract query rows) (size : Sized (problem k extract query))
    {kind : ℕ} {out : Zone} (told : Told u size kind out) where
  pub pairs_asked : PairsBy k rows.twin kind out
  pairs_asked = rw told.0 (pairs_by u size out told.1)

  pub pair_handed_out : {p : Pair} → p ≡ pair_record k extract query rows.twin kind (least_in out) → HandsOut k extract query p.first p.second
  pair_handed_out is = hands_out u size out told.1 (rw told.0 at is)

-- ---- the listing, by marks on the columns that aren't fixed: in front of those of the columns that aren't there
pub listing_told : (k : Columns) (extract query : Expression) → Given k extract query → k.width ≡ length (columns (job_of k extract query))
    → {none marks : List Bool} (rest : List Bool) → none ≡ replicate k.width false
    → marks ≡ marked (length none) (unfixed_in (job_of k extract query)) none
    → listed_by k extract (marks ++ rest) ≡ listing_record k extract query
unfolding listing_record
listing_told k extract query g width {none} {marks} rest clear is = listing_is k extract query g.laid (marks ++ rest) (λ c h.
    let wide : length none ≡ k.width = ap length clear ∙ length-replicate k.width false in
    let long : length marks ≡ k.width = ap length is ∙ marked_length (unfixed_in (job_of k extract query)) none (length none) ∙ wide in
    get_or-append marks rest false c (rw long h)
    ∙ ap (λ (m : List Bool). get_or m c false) is
    ∙ marked_at (unfixed_in (job_of k extract query)) none (length none) c (omega arith) (rw wide h)
    ∙ ap (λ (m : List Bool). get_or m c false || unfixed_in (job_of k extract query) c) clear
    ∙ rw (replicate_at k.width c false) (twice (unfixed_in (job_of k extract query) c))
    ∙ sym (ap not (fixed_found (job_of k extract query) g.formed c (omega arith))))
  where
    twice : (b : Bool) → b ≡ not (not b)
    twice true = refl
    twice false = refl
