-- The least row of a zone has values of 32 bits, and so can be read. Assumes nothing.
use mathlib.Core.Path.{◌≡◌, sym, ap, ◌∙◌}
use mathlib.Core.Bool.{Bool}
use mathlib.Core.List.{List}
use Prim.Native.Nat.{ℕ, suc, ◌+◌, ◌<◌}
use native.Mathlib.Omega.{arith}
use native.Mathlib.Numerals.{add-one}
use lib.ListN.{length, get_or}
use lib.IntN.{ℤ, pos, negsuc}
use lib.Signed.{le_z, mag}
use lib.Dec.{T}
use mir.Facts.{and_yes, yes_and}
use Rattle.base.proofs.Places.{element, pairwise_at}
use Rattle.base.specs.Lists.{all_of, at}
use Rattle.base.proofs.Lists.{pairwise_length, all_has}
use Rattle.model.proofs.Formed.{near, range_word}
use Rattle.words.specs.Bias.{bias, biased}
use Rattle.words.specs.Word.{sign_bit}
use Rattle.words.proofs.Order.{le_z_trans}
use Rattle.words.proofs.Biases.{biased_low, biased_high}
use Rattle.model.specs.Tables.{Row, value, inside, within}
use Rattle.model.specs.declared.Bounds.{Bounds}
use Rattle.model.specs.WellFormed.{in_range}
use Rattle.zone.specs.Zone.{Zone, least_of}
use Rattle.zone.proofs.Closed.{least_length, least_meets}
use Rattle.solver.specs.Solver.{row_of}
use Rattle.solver.specs.Uses.{WordNodes}
use Rattle.solver.proofs.Nodes.{map_at}
use Rattle.conditions.proofs.Stands.{Stands}

-- ---- values of 32 bits
inside_range : (b : Bounds) → T (near b) → (v : ℤ) → T (inside b v) → T (in_range v)
inside_range b h v t =
    let (low, high) = and_yes (in_range b.lo) (in_range b.hi) h in
    let (above, below) = and_yes (le_z b.lo v) (le_z v b.hi) t in
    yes_and (le_z (negsuc 999999) v) (le_z v (pos 1000000))
    (le_z_trans (negsuc 999999) b.lo v (and_yes (le_z (negsuc 999999) b.lo) (le_z b.lo (pos 1000000)) low).0 above)
    (le_z_trans v b.hi (pos 1000000) below (and_yes (le_z (negsuc 999999) b.hi) (le_z b.hi (pos 1000000)) high).1)

module _ (bs : List Bounds) (range : T (all_of near bs)) where
  pub within_word : (r : Row) → T (within bs r) → (c : ℕ) → c < length bs → mag (value r c) < sign_bit 4
  within_word r w c h =
      let none : Bounds = record { lo = pos 0; hi = pos 0 } in
      range_word (value r c) (inside_range (get_or bs c none) (all_has near (element bs c none h) range) (value r c)
      (pairwise_at inside bs r none (pos 0) w c h))

-- ---- of the rows of a zone
module _ (bs : List Bounds) (p : Row → Bool) (z : Zone) (s : Stands bs p z) (range : T (all_of near bs)) where
  long : length z ≡ length bs + 1
  long = s.size ∙ sym (add-one (length bs))

  pub least_words : (row : List ℤ) → length row ≡ length bs → WordNodes (least_of z) row
  least_words row size =
      let x = least_of z in
      let (w, e) = s.back x (least_meets z s.closed) in
      let r = row_of x in
      let node : (i : ℕ) → i < length row → at x (suc i) ≡ biased bias (value r i)
      = λ i h. ap (λ (x : List ℕ). at x (suc i)) (sym e) ∙ map_at r i (omega (arith, pairwise_length inside bs r w)) in
      let word : (i : ℕ) → i < length row → mag (value r i) < sign_bit 4 = λ i h. within_word bs range r w i (omega arith) in
      record {
        size = least_length z s.closed ∙ long ∙ ap (λ (n : ℕ). n + 1) (sym size);
        low = λ i h. omega (arith, node i h, biased_low bias (sign_bit 4) (value r i) (word i h));
        high = λ i h. omega (arith, node i h, biased_high bias (sign_bit 4) (value r i) (word i h));
      }
