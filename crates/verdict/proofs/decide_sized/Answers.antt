-- `verdict::decide_sized` meets its contract. Assumes nothing.
use borrow.Author.Rules.{rules}
use mathlib.Core.Path.{◌≡◌, sym, ap, ◌∙◌}
use mathlib.Core.Bool.{Bool, false}
use mathlib.Core.List.{List}
use native.Mathlib.Omega.{arith}
use lib.ListN.{length, take, drop, replicate, length-replicate}
use lib.Seq.{length-take-le}
use Rattle.std.proofs.lemmas.List.{take-replicate}
use Rattle.model.specs.Answers.{number_of_kind}
use Rattle.job.specs.Meaning.{job_of, problem}
use Rattle.job.proofs.Records.{Sized}
use Rattle.twins.proofs.Marking.{marked_cong}
use Rattle.verdict.specs.Found.{unfixed_in}
use Rattle.verdict.proofs.Ready.{sizes, width_of, width_most, columns_most, keeps_renames, wants_renames, one_asks, one_box, one_finds, two_asks, two_box, two_finds, marks_two, finds_unfixed, tables_told}
use Rattle.verdict.proofs.Told.{Told, none_found, some_found, told_first, told_second}
use Rattle.verdict.proofs.Handing.{pairs_asked, pair_handed_out, listing_told}
use Rattle.verdict.proofs.Decided.{kind_found}
use Rattle.verdict.proofs.decide_sized.Goals as goal
use Rattle.verdict.proofs.decide_sized.Given.{Over}
use Rattle.verdict.proofs.decide_sized.Goals.{Joined-eq, then-eq, else-eq}

-- the kind that was found, and the zone that was left
told : (g : Over) (c : Joined-eq g) (size : Sized (problem c.args.k c.args.extract c.args.query))
    → Told c.requires.decides size (number_of_kind c.if-eq.kind) c.if-eq.out
told g c size =
    let u = c.requires.decides in
    let one = one_box u size c.set_bounds.ensures.zone in
    let tables = tables_told u size c.tables_differ-differ.ensures in
    elim c.if-eq.branch [
      | then-eq s ↦ rw (s.out-is, s.kind-is) (told_second u size _ one tables c.find_one-kind.ensures.kind (none_found _ c.eq.ensures s.if-eq.true)
          c.rename-keeps_other.ensures s.rename-wants_other.ensures _ (two_box u size c.set_bounds-2.ensures.zone) _
          (rw s.output_columns-cs.ensures at s.find_two-kind.ensures.kind) (rw s.output_columns-cs.ensures at s.find_two-kind.ensures.zone))
      | else-eq s ↦ rw (s.out-is, s.kind-is) (told_first u size _ one tables _ c.find_one-kind.ensures.kind (some_found _ c.eq.ensures s.if-eq.false)
          c.find_one-kind.ensures.zone)
    ]

pub new-z-requires : goal.new-z-requires
new-z-requires g c = (search rules, omega (arith, c.requires.room))

pub new-on_way-requires : goal.new-on_way-requires
new-on_way-requires g c = (search rules, omega (arith, c.requires.room))

pub new-out-requires : goal.new-out-requires
new-out-requires g c = (search rules, omega (arith, c.requires.room))

pub rename-keeps_other-requires : goal.rename-keeps_other-requires
rename-keeps_other-requires g c = keeps_renames c.requires.decides (sizes c.well_formed)

pub shared_ref_as_front-set_bounds : goal.shared_ref_as_front-set_bounds
shared_ref_as_front-set_bounds g c = omega (arith, width_most c.requires.decides (sizes c.well_formed))

pub set_bounds-requires : goal.set_bounds-requires
set_bounds-requires g c = (search rules, one_asks c.requires.decides (sizes c.well_formed) _ c.requires.room)

pub find_one-kind-requires : goal.find_one-kind-requires
find_one-kind-requires g c =
    let size = sizes c.well_formed in
    (search rules, (search rules, one_finds c.requires.decides size (one_box c.requires.decides size c.set_bounds.ensures.zone)))

pub shared_ref_as_front-set_bounds-2 : goal.shared_ref_as_front-set_bounds-2
shared_ref_as_front-set_bounds-2 g c = columns_most c.requires.decides (sizes c.well_formed)

pub set_bounds-requires-2 : goal.set_bounds-requires-2
set_bounds-requires-2 g c = (search rules, two_asks c.requires.decides (sizes c.well_formed) _ c.requires.room)

pub rename-wants_other-requires : goal.rename-wants_other-requires
rename-wants_other-requires g c = wants_renames c.requires.decides (sizes c.well_formed)

pub find_two-kind-requires : goal.find_two-kind-requires
find_two-kind-requires g c =
    let size = sizes c.well_formed in
    let two = two_box c.requires.decides size c.set_bounds-2.ensures.zone in (
      search rules,
      (
        search rules,
        rw c.output_columns-cs.ensures
            (two_finds c.requires.decides size c.rename-keeps_other.ensures two c.rename-wants_other.ensures),
      ),
    )

pub pair_of-pair-requires : goal.pair_of-pair-requires
pair_of-pair-requires g c =
    let size = sizes c.well_formed in
    (search rules, pairs_asked c.requires.decides size (told g ((goal.at.pair_of-pair-requires g c).Joined-eq) size))

pub slice_bounds-marks-end : goal.slice_bounds-marks-end
slice_bounds-marks-end g c = width_most c.requires.decides (sizes c.well_formed)

pub slice_bounds-mark_pairs-end : goal.slice_bounds-mark_pairs-end
slice_bounds-mark_pairs-end g c =
    sym (length-take-le c.args.k.width (replicate 16 false) (width_most c.requires.decides (sizes c.well_formed)))

pub mark_pairs-requires : goal.mark_pairs-requires
mark_pairs-requires g c =
    let u = c.requires.decides in
    let size = sizes c.well_formed in (
      search rules,
      marks_two u size c.rename-keeps_other.ensures (two_box u size c.set_bounds-2.ensures.zone)
          (length-take-le c.args.k.width (replicate 16 false) (width_most u size)),
    )

pub listing_of-requires : goal.listing_of-requires
listing_of-requires g c = width_most c.requires.decides (sizes c.well_formed)

pub returns : goal.returns
returns g c =
    let u = c.requires.decides in
    let size = sizes c.well_formed in
    let told = told g ((goal.at.returns g c).Joined-eq) size in
    let k = c.args.k in let extract = c.args.extract in let query = c.args.query in
    let none : List Bool = take k.width (replicate 16 false) in
    let clear : none ≡ replicate k.width false = take-replicate k.width 16 false (width_most u size) in
    let wide : length none ≡ k.width = ap length clear ∙ length-replicate k.width false in
    record {
      kind = told.0 ∙ sym (kind_found _ u.given.formed);
      listing = c.listing_of.ensures ∙ listing_told k extract query u.given (width_of u size) (drop k.width (replicate 16 false)) clear
          (c.mark_pairs.ensures ∙ marked_cong _ (unfixed_in (job_of k extract query)) none (length none)
          (λ i h. finds_unfixed u size c.rename-keeps_other.ensures _ (two_box u size c.set_bounds-2.ensures.zone) i (rw wide at h)));
      databases = pair_handed_out u size told c.pair_of-pair.ensures;
    }
