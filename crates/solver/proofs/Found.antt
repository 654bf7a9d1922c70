-- From the zone of a list to the row that is written. Assumes nothing.
use mathlib.Core.Path.{◌≡◌, refl, sym, ap, ◌∙◌}
use mathlib.Core.Bool.{Bool, true, false, false≢true}
use mathlib.Core.List.{List, [], ◌∷◌, map}
use mathlib.Core.Option.{Option, none, some, none-ne-some, some-injective}
use Prim.Native.Nat.{ℕ, suc, ◌+◌, ◌<◌}
use native.Mathlib.Omega.{arith}
use native.Mathlib.Numerals.{add-one}
use lib.ListN.{length, get_or, replicate, length-map}
use lib.IntN.{ℤ, pos}
use lib.Dec.{T}
use mir.Facts.{yes_and}
use Rattle.base.specs.Lists.{all_of}
use Rattle.base.specs.Options.{and_then, is_some}
use Rattle.words.specs.Bias.{bias}
use Rattle.words.specs.Word.{sign_bit}
use Rattle.words.proofs.Biases.{biased_low, biased_high}
use Rattle.model.specs.Tables.{Comparison}
use Rattle.job.specs.declared.Comparison as given
use Rattle.job.specs.Meaning.{comparison_of}
use Rattle.model.specs.declared.Bounds.{Bounds}
use Rattle.model.specs.Least.{least_row}
use Rattle.zone.specs.Zone.{Zone, Closed, columns_of, least_of}
use Rattle.zone.proofs.Closed.{least_length, least_meets}
use Rattle.zone.proofs.Box.{Between, box_rows_lem}
use Rattle.zone.proofs.Answers.{Answers}
use Rattle.solver.specs.Solver.{bounds_fit, comparison_fits, solvable, nodes, row_of, los, his, box_of, imposed, imposed_all, zone_of, solution}
use Rattle.solver.specs.Lists.{onward, reached, row_or_zeros}
use Rattle.solver.specs.Uses.{Words, WordNodes, Solves}
use Rattle.solver.proofs.Nodes.{nodes_size, nodes_at, nodes_length, box_bounded}
use Rattle.solver.proofs.Solver.{ObeysList, zone_answers, solution_least}

-- where some row meets the list, the zone that is reached is the list's
pub reached_is : (z : Zone) (ks : List Comparison) (y : Zone) → imposed_all z ks ≡ some y → reached z ks ≡ y
reached_is z [] y e = some-injective z y e
reached_is z (k ∷ ks) y e = go (imposed z k) e (λ w q. reached_is w ks y q)
  where
    go : (o : Option Zone) → and_then o (λ w. imposed_all w ks) ≡ some y → ((w : Zone) → imposed_all w ks ≡ some y → reached w ks ≡ y)
        → onward o z (λ w. reached w ks) ≡ y
    go none e next = absurd (none-ne-some y e)
    go (some w) e next = next w e

module _ (bs : List Bounds) (list : List given.Comparison) (row : List ℤ) (u : Solves bs list row)
    (e : Zone) (boxed : e ≡ box_of bs) where
  abbrev ks : List Comparison
  ks = map comparison_of list

  ok : T (solvable bs ks)
  unfolding solvable
  ok = yes_and (all_of bounds_fit bs) (all_of (comparison_fits (length bs)) ks) u.bounds u.fit

  size : length (box_of bs) ≡ length bs + 1
  size = nodes_length bs u.bounds ∙ sym (add-one (length bs))

  pub imposes : T (all_of (comparison_fits (columns_of e)) (map comparison_of list))
  imposes =
      let same : columns_of e ≡ length bs = rw boxed (omega (arith, size)) in
      rw same u.fit

  zone_all : imposed_all e ks ≡ zone_of bs ks
  unfolding zone_of
  zone_all = rw boxed

  least_is : (o : Option Zone) → zone_of bs ks ≡ o → least_row bs ks ≡ and_then o (λ z. some (row_of (least_of z)))
  unfolding solution
  least_is o q = sym (solution_least bs ks ok) ∙ ap (λ (t : Option Zone). and_then t (λ z. some (row_of (least_of z)))) q

  -- what is answered, and written
  abbrev pub Written : Bool → List ℤ → Type 0
  Written r x = (r ≡ is_some (least_row bs ks)) × (x ≡ row_or_zeros (length bs) (least_row bs ks))

  -- no row meets the list
  pub none_written : is_some (imposed_all e ks) ≡ false → (x : List ℤ) → x ≡ replicate (length row) (pos 0) → Written false x
  none_written f x z = go (zone_of bs ks) refl
    where
      go : (o : Option Zone) → zone_of bs ks ≡ o → Written false x
      go (some y) q = absurd (false≢true (sym f ∙ ap is_some (zone_all ∙ q)))
      go none q = rw (least_is none q) (refl, z ∙ rw u.room)

  -- some row meets it
  module _ (f : is_some (imposed_all e ks) ≡ true) (g : Zone)
      (left_over : g ≡ reached e ks) where
    some_zone : (y : Zone) × (zone_of bs ks ≡ some y) × Answers (box_of bs) (ObeysList ks) (some y)
    some_zone = go (zone_of bs ks) refl (zone_answers bs ks ok)
      where
        go : (o : Option Zone) → zone_of bs ks ≡ o → Answers (box_of bs) (ObeysList ks) o
            → (y : Zone) × (zone_of bs ks ≡ some y) × Answers (box_of bs) (ObeysList ks) (some y)
        go none q a = absurd (false≢true (sym (ap is_some (zone_all ∙ q)) ∙ f))
        go (some y) q a = (y, q, a)

    abbrev y : Zone
    y = some_zone.0

    closed : Closed y
    closed = some_zone.2.0

    y_size : length y ≡ length bs + 1
    y_size = some_zone.2.1 ∙ size

    is_y : g ≡ y
    is_y = left_over ∙ reached_is e ks y (zone_all ∙ some_zone.1)

    -- its values lie between the bounds, which are of 32 bits
    between : Between (nodes (los bs)) (nodes (his bs)) (least_of y)
    unfolding box_of
    between =
        (box_rows_lem (nodes (los bs)) (nodes (his bs)) (box_bounded bs u.bounds) (least_of y)).0
        ((some_zone.2.2 (least_of y)).0 (least_meets y closed)).0

    lo_size : length (los bs) ≡ length bs
    lo_size = length-map bs (λ (b : Bounds). b.lo)

    hi_size : length (his bs) ≡ length bs
    hi_size = length-map bs (λ (b : Bounds). b.hi)

    words : Words (los bs) → Words (his bs) → WordNodes (least_of y) row
    words wl wh = record {
      size = least_length y closed ∙ y_size ∙ ap (λ (n : ℕ). n + 1) (sym u.room);
      low = λ i h.
          let l : i < length (los bs) = omega (arith, u.room, lo_size) in
          let a = rw (add-one i) at (nodes_at (los bs) i l) in
          omega (arith, a, between.above (suc i) (omega (arith, nodes_size (los bs), lo_size, u.room)), biased_low bias (sign_bit 4) (get_or (los bs) i (pos 0)) (wl i l));
      high = λ i h.
          let l : i < length (his bs) = omega (arith, u.room, hi_size) in
          let a = rw (add-one i) at (nodes_at (his bs) i l) in
          omega (arith, a, between.below (suc i) (omega (arith, nodes_size (los bs), lo_size, u.room)), biased_high bias (sign_bit 4) (get_or (his bs) i (pos 0)) (wh i l));
    }

    pub least_room : Words (los bs) → Words (his bs) → WordNodes (least_of g) row
    least_room wl wh = rw is_y (words wl wh)

    pub row_written : (x : List ℤ) → x ≡ row_of (least_of g) → Written true x
    row_written x q = rw (least_is (some y) some_zone.1) (refl, q ∙ ap (λ (z : Zone). row_of (least_of z)) is_y)
