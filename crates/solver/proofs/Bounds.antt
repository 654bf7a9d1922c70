-- The nodes of bounds, and the box that these make. Assumes nothing.
use mathlib.Core.Path.{◌≡◌, refl, sym, ap, ◌∙◌}
use mathlib.Core.List.{List}
use Prim.Native.Nat.{ℕ, ◌+◌, ◌<◌, ◌≤◌}
use native.Mathlib.Omega.{arith}
use borrow.Author.Count.{below_more}
use lib.ListN.{length, get_or, set, take, replicate, length-map}
use lib.Seq.{take_at}
use lib.IntN.{ℤ, pos}
use lib.Signed.{mag}
use Rattle.base.specs.Lists.{at}
use Rattle.base.proofs.Arrays.{Pass, pass_there, pass_end, front_turn, filled_front}
use Rattle.base.proofs.Places.{tabulated, tabulate_length, map_at}
use Rattle.words.specs.Bias.{bias, biased}
use Rattle.words.specs.Word.{sign_bit}
use Rattle.model.specs.declared.Bounds.{Bounds}
use Rattle.zone.specs.Zone.{boxed}
use Rattle.zone.specs.Uses.{NodeBounds}
use Rattle.solver.specs.Solver.{nodes, los, his, box_of}
use Rattle.solver.specs.Uses.{Words, BoundsRoom}
use Rattle.solver.proofs.Nodes.{nodes_size, nodes_at, box_bounded}

-- ---- The nodes of a list of values in the first places of an array of 33; those of the first k are there

abbrev pub NodePass : List ℤ → ℕ → List ℕ → Type 0
NodePass v k x = Pass (at (nodes v)) 0 (length v + 1) (k + 1) (replicate 33 bias) x

pub nodes_start : (v : List ℤ) → NodePass v 0 (replicate 33 bias)
nodes_start v = pass_there (at (nodes v)) 0 (replicate 33 bias) 0 (omega arith) (λ j h. let e : j ≡ 0 = omega arith in rw e)

pub nodes_turn : (v : List ℤ) {k n : ℕ} {x : List ℕ} → NodePass v k x → k < length v → n ≡ biased bias (get_or v k (pos 0))
    → NodePass v (k + 1) (set x (k + 1) n)
nodes_turn v {k} s more same = front_turn s (omega arith) (same ∙ sym (nodes_at v k more))

pub nodes_end : (v : List ℤ) {k n : ℕ} {x : List ℕ} → NodePass v k x → length v ≤ k → length v ≤ 32 → n ≡ length v → take (n + 1) x ≡ nodes v
nodes_end v s past small size =
    rw (size, pass_end s (omega arith), filled_front (at (nodes v)) (length v + 1) (replicate 33 bias) (omega arith))
    (take_at _ _ _ (tabulate_length _ _) ∙ sym (tabulated (nodes v) (at (nodes v)) (length v + 1) 0 (nodes_size v) (λ i h. refl)))

-- ---- Bounds, with the first k of them done

pub record Laying (bs : List Bounds) (k : ℕ) (low high : List ℕ) : Type 0 where
  pub lows : NodePass (los bs) k low
  pub highs : NodePass (his bs) k high
  pub low_words : (i : ℕ) → i < k → mag (get_or (los bs) i (pos 0)) < sign_bit 4
  pub high_words : (i : ℕ) → i < k → mag (get_or (his bs) i (pos 0)) < sign_bit 4

pub laying_start : (bs : List Bounds) → Laying bs 0 (replicate 33 bias) (replicate 33 bias)
laying_start bs = record {
  lows = nodes_start (los bs);
  highs = nodes_start (his bs);
  low_words = λ i h. absurd (omega arith);
  high_words = λ i h. absurd (omega arith);
}

module _ {bs : List Bounds} {k : ℕ} {low high : List ℕ} (s : Laying bs k low high) where
  -- the bounds at place k are laid; d stands for what is past the end
  module _ (d : Bounds) (more : k < length bs) where
    abbrev b : Bounds
    b = get_or bs k d

    lo_at : get_or (los bs) k (pos 0) ≡ b.lo
    lo_at = map_at (λ b. b.lo) bs k d (pos 0) more

    hi_at : get_or (his bs) k (pos 0) ≡ b.hi
    hi_at = map_at (λ b. b.hi) bs k d (pos 0) more

    pub laying_turn : {m n : ℕ} → mag b.lo < sign_bit 4 → mag b.hi < sign_bit 4 → m ≡ biased bias b.lo → n ≡ biased bias b.hi
        → Laying bs (k + 1) (set low (k + 1) m) (set high (k + 1) n)
    laying_turn lo_word hi_word lo_same hi_same = record {
      lows = nodes_turn (los bs) s.lows (omega (arith, length-map bs (λ (b : Bounds). b.lo))) (lo_same ∙ ap (biased bias) (sym lo_at));
      highs = nodes_turn (his bs) s.highs (omega (arith, length-map bs (λ (b : Bounds). b.hi))) (hi_same ∙ ap (biased bias) (sym hi_at));
      low_words = below_more (λ (i : ℕ). mag (get_or (los bs) i (pos 0)) < sign_bit 4) k s.low_words (rw lo_at lo_word);
      high_words = below_more (λ (i : ℕ). mag (get_or (his bs) i (pos 0)) < sign_bit 4) k s.high_words (rw hi_at hi_word);
    }

  module _ {size : ℕ} (u : BoundsRoom size bs) (past : length bs ≤ k) where
    lo_size : length (los bs) ≡ length bs
    lo_size = length-map bs (λ (b : Bounds). b.lo)

    hi_size : length (his bs) ≡ length bs
    hi_size = length-map bs (λ (b : Bounds). b.hi)

    lows_are : take (length bs + 1) low ≡ nodes (los bs)
    lows_are = nodes_end (los bs) s.lows (omega (arith, lo_size)) (omega (arith, lo_size, u.small)) (sym lo_size)

    highs_are : take (length bs + 1) high ≡ nodes (his bs)
    highs_are = nodes_end (his bs) s.highs (omega (arith, hi_size)) (omega (arith, hi_size, u.small)) (sym hi_size)

    pub box_bounds : NodeBounds (take (length bs + 1) low) (take (length bs + 1) high)
    box_bounds = rw (lows_are, highs_are) (box_bounded bs u.fit)

    pub box_size : length (take (length bs + 1) low) ≡ length bs + 1
    box_size = rw lows_are (omega (arith, nodes_size (los bs), lo_size))

    pub box_is : boxed (take (length bs + 1) low) (take (length bs + 1) high) ≡ box_of bs
    unfolding box_of
    box_is = rw (lows_are, highs_are)

    pub words_are : Words (los bs) × Words (his bs)
    words_are = (
      λ i h. s.low_words i (omega (arith, lo_size)),
      λ i h. s.high_words i (omega (arith, hi_size)),
    )
