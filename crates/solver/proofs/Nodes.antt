-- Rows of values and rows of nodes: those within bounds are the rows of the box. Assumes nothing.
use mathlib.Core.Path.{◌≡◌, refl, sym, ap, ◌∙◌}
use mathlib.Core.Bool.{◌&&◌}
use mathlib.Core.List.{List, [], ◌∷◌, map}
use Prim.Native.Nat.{ℕ, zero, suc, ◌+◌, ◌*◌, ◌<◌, ◌≤◌}
use native.Mathlib.Omega.{arith}
use native.Mathlib.Numerals.{add-one}
use lib.ListN.{length, get_or, length-map}
use lib.IntN.{ℤ, pos, negsuc}
use lib.Signed.{le_z}
use lib.Dec.{T, leb→le, le→leb}
use mir.Facts.{and_yes, yes_and}
use Rattle.base.specs.Lists.{all_of, at}
use Rattle.base.proofs.Lists.{pairwise_length}
use Rattle.words.specs.Bias.{bias, biased, unbiased}
use Rattle.words.proofs.Order.{le_z_trans}
use Rattle.words.proofs.Biases.{FromBias, biased_le, biased_unbiased, unbiased_from}
use Rattle.model.specs.Tables.{Row, inside, within}
use Rattle.model.specs.declared.Bounds.{Bounds}
use Rattle.zone.specs.Zone.{Meets, Closed}
use Rattle.zone.specs.Uses.{NodeBounds}
use Rattle.zone.proofs.Box.{box_length, box_closed, box_rows_lem}
use Rattle.solver.specs.Solver.{fits, bounds_fit, nodes, row_of, los, his, box_of}

-- ---- values that fit
pub low_from : (v : ℤ) → T (le_z (negsuc 999999999999999) v) → FromBias bias v
low_from (pos n) t = tt
low_from (negsuc n) t = omega (arith, leb→le n 999999999999999 t)

pub fit_from : (v : ℤ) → T (fits v) → FromBias bias v
fit_from v t = low_from v (and_yes (le_z (negsuc 999999999999999) v) (le_z v (pos bias)) t).0

pub fit_top : (v : ℤ) → T (fits v) → biased bias v ≤ 2 * bias
fit_top (pos n) t = omega (arith, leb→le n bias t)
fit_top (negsuc n) t = omega arith

pub biased_at_most : (a b : ℤ) → FromBias bias a → FromBias bias b → T (le_z a b) → biased bias a ≤ biased bias b
biased_at_most a b f g t = leb→le (biased bias a) (biased bias b) (rw (biased_le bias a b f g) at t)

-- ---- a value within bounds
module _ (b : Bounds) (fit : T (bounds_fit b)) where
  fit_parts : T (fits b.lo) × T (fits b.hi) × T (le_z b.lo b.hi)
  fit_parts =
      let (f, o) = and_yes (fits b.lo && fits b.hi) (le_z b.lo b.hi) fit in
      let (l, h) = and_yes (fits b.lo) (fits b.hi) f in
      (l, h, o)

  pub bounds_ordered : biased bias b.lo ≤ biased bias b.hi
  bounds_ordered = let (l, h, o) = fit_parts in biased_at_most b.lo b.hi (fit_from b.lo l) (fit_from b.hi h) o

  pub bounds_top : biased bias b.hi ≤ 2 * bias
  bounds_top = let (l, h, o) = fit_parts in fit_top b.hi h

  pub inside_from : (v : ℤ) → T (inside b v) → FromBias bias v
  inside_from v t =
      let (l, h, o) = fit_parts in
      let (low, _) = and_yes (le_z b.lo v) (le_z v b.hi) t in
      low_from v (le_z_trans (negsuc 999999999999999) b.lo v (and_yes (le_z (negsuc 999999999999999) b.lo) (le_z b.lo (pos bias)) l).0 low)

  pub inside_biased : (v : ℤ) → T (inside b v) → (biased bias b.lo ≤ biased bias v) × (biased bias v ≤ biased bias b.hi)
  inside_biased v t =
      let (l, h, o) = fit_parts in
      let (low, high) = and_yes (le_z b.lo v) (le_z v b.hi) t in
      (biased_at_most b.lo v (fit_from b.lo l) (inside_from v t) low, biased_at_most v b.hi (inside_from v t) (fit_from b.hi h) high)

  pub biased_inside : (n : ℕ) → biased bias b.lo ≤ n → n ≤ biased bias b.hi → T (inside b (unbiased bias n))
  biased_inside n low high =
      let (l, h, o) = fit_parts in
      let v = unbiased bias n in
      let e = biased_unbiased bias n in
      let g = unbiased_from bias n in
      yes_and (le_z b.lo v) (le_z v b.hi)
      (rw (biased_le bias b.lo v (fit_from b.lo l) g) (le→leb (biased bias b.lo) (biased bias v) (omega (arith, e))))
      (rw (biased_le bias v b.hi g (fit_from b.hi h)) (le→leb (biased bias v) (biased bias b.hi) (omega (arith, e))))

-- ---- rows within bounds
-- how a column's bounds and value stand to each other, as nodes
abbrev Column : List Bounds → List ℕ → ℕ → Type 0
Column bs x i = (at (map (biased bias) (los bs)) i ≤ at x i) × (at x i ≤ at (map (biased bias) (his bs)) i)

row_between : (bs : List Bounds) (r : Row) → T (all_of bounds_fit bs) → T (within bs r) → (i : ℕ) → i < length bs → Column bs (map (biased bias) r) i
row_between [] r f w i h = absurd (omega arith)
row_between (b ∷ bs) [] f w i h = absurd w
row_between (b ∷ bs) (v ∷ r) f w zero h =
    inside_biased b (and_yes (bounds_fit b) (all_of bounds_fit bs) f).0 v (and_yes (inside b v) (within bs r) w).0
row_between (b ∷ bs) (v ∷ r) f w (suc i) h =
    row_between bs r (and_yes (bounds_fit b) (all_of bounds_fit bs) f).1 (and_yes (inside b v) (within bs r) w).1 i (omega arith)

between_row : (bs : List Bounds) (x : List ℕ) → T (all_of bounds_fit bs) → length x ≡ length bs → ((i : ℕ) → i < length bs → Column bs x i)
    → T (within bs (map (unbiased bias) x))
between_row [] [] f e h = tt
between_row [] (n ∷ x) f e h = absurd (omega arith)
between_row (b ∷ bs) [] f e h = absurd (omega arith)
between_row (b ∷ bs) (n ∷ x) f e h =
    let (fb, fs) = and_yes (bounds_fit b) (all_of bounds_fit bs) f in
    let (low, high) = h 0 (omega arith) in
    yes_and (inside b (unbiased bias n)) (within bs (map (unbiased bias) x))
    (biased_inside b fb n low high)
    (between_row bs x fs (omega arith) (λ i l. h (suc i) (omega arith)))

pub within_from : (bs : List Bounds) (r : Row) → T (all_of bounds_fit bs) → T (within bs r) → (i : ℕ) → i < length bs → FromBias bias (get_or r i (pos 0))
within_from [] r f w i h = absurd (omega arith)
within_from (b ∷ bs) [] f w i h = absurd w
within_from (b ∷ bs) (v ∷ r) f w zero h = inside_from b (and_yes (bounds_fit b) (all_of bounds_fit bs) f).0 v (and_yes (inside b v) (within bs r) w).0
within_from (b ∷ bs) (v ∷ r) f w (suc i) h =
    within_from bs r (and_yes (bounds_fit b) (all_of bounds_fit bs) f).1 (and_yes (inside b v) (within bs r) w).1 i (omega arith)

-- ---- there and back
pub map_at : (r : Row) (i : ℕ) → i < length r → at (map (biased bias) r) i ≡ biased bias (get_or r i (pos 0))
map_at [] i h = absurd (omega arith)
map_at (v ∷ r) zero h = refl
map_at (v ∷ r) (suc i) h = map_at r i (omega arith)

pub biased_back : (x : List ℕ) → map (biased bias) (map (unbiased bias) x) ≡ x
biased_back [] = refl
biased_back (n ∷ x) = rw (biased_unbiased bias n, biased_back x)

pub nodes_size : (v : Row) → length (nodes v) ≡ length v + 1
nodes_size v = ap suc (length-map v (biased bias)) ∙ sym (add-one (length v))

pub nodes_at : (v : Row) (i : ℕ) → i < length v → at (nodes v) (i + 1) ≡ biased bias (get_or v i (pos 0))
nodes_at v i h = rw (add-one i) (map_at v i h)

pub row_length : (x : List ℕ) (n : ℕ) → length x ≡ n + 1 → length (row_of x) ≡ n
row_length [] n e = absurd (omega arith)
row_length (y ∷ x) n e = length-map x (unbiased bias) ∙ (let k : length x ≡ n = omega arith in k)

pub row_at : (x : List ℕ) (i : ℕ) → i + 1 < length x → get_or (row_of x) i (pos 0) ≡ unbiased bias (at x (i + 1))
row_at [] i h = absurd (omega arith)
row_at (y ∷ x) i h = rw (add-one i) (go x i (omega arith))
  where
    go : (x : List ℕ) (i : ℕ) → i < length x → get_or (map (unbiased bias) x) i (pos 0) ≡ unbiased bias (at x i)
    go [] i h = absurd (omega arith)
    go (n ∷ x) zero h = refl
    go (n ∷ x) (suc i) h = go x i (omega arith)

-- ---- the box
map_length : (f : ℤ → ℕ) (bs : List Bounds) (g : Bounds → ℤ) → length (map f (map g bs)) ≡ length bs
map_length f bs g = length-map (map g bs) f ∙ length-map bs g

module _ (bs : List Bounds) (fit : T (all_of bounds_fit bs)) where
  fit_at : (cs : List Bounds) → T (all_of bounds_fit cs) → (i : ℕ) → i < length cs
      → (at (map (biased bias) (los cs)) i ≤ at (map (biased bias) (his cs)) i) × (at (map (biased bias) (his cs)) i ≤ 2 * bias)
  fit_at [] f i h = absurd (omega arith)
  fit_at (b ∷ cs) f zero h = let t = (and_yes (bounds_fit b) (all_of bounds_fit cs) f).0 in (bounds_ordered b t, bounds_top b t)
  fit_at (b ∷ cs) f (suc i) h = fit_at cs (and_yes (bounds_fit b) (all_of bounds_fit cs) f).1 i (omega arith)

  pub box_bounded : NodeBounds (nodes (los bs)) (nodes (his bs))
  box_bounded = record {
    some_node = omega arith;
    same = ap suc (map_length (biased bias) bs (λ b. b.hi) ∙ sym (map_length (biased bias) bs (λ b. b.lo)));
    zero_lo = refl;
    zero_hi = refl;
    ordered = ordered;
    limited = limited;
  }
    where
      ordered : (i : ℕ) → i < length (nodes (los bs)) → at (nodes (los bs)) i ≤ at (nodes (his bs)) i
      ordered zero h = omega arith
      ordered (suc i) h = (fit_at bs fit i (omega (arith, map_length (biased bias) bs (λ b. b.lo)))).0

      limited : (i : ℕ) → i < length (nodes (los bs)) → at (nodes (his bs)) i ≤ 2 * bias
      limited zero h = omega arith
      limited (suc i) h = (fit_at bs fit i (omega (arith, map_length (biased bias) bs (λ b. b.lo)))).1

  pub nodes_length : length (box_of bs) ≡ suc (length bs)
  unfolding box_of
  nodes_length = box_length (nodes (los bs)) (nodes (his bs)) box_bounded ∙ ap suc (map_length (biased bias) bs (λ b. b.lo))

  pub nodes_closed : Closed (box_of bs)
  unfolding box_of
  nodes_closed = box_closed (nodes (los bs)) (nodes (his bs)) box_bounded

  -- a row within bounds is one of the box
  pub row_meets : (r : Row) → T (within bs r) → Meets (box_of bs) (nodes r)
  unfolding box_of
  row_meets r w = (box_rows_lem (nodes (los bs)) (nodes (his bs)) box_bounded (nodes r)).1 record {
    size = ap suc (length-map r (biased bias) ∙ pairwise_length inside bs r w ∙ sym (map_length (biased bias) bs (λ b. b.lo)));
    above = above;
    below = below;
  }
    where
      above : (i : ℕ) → i < length (nodes (los bs)) → at (nodes (los bs)) i ≤ at (nodes r) i
      above zero h = omega arith
      above (suc i) h = (row_between bs r fit w i (omega (arith, map_length (biased bias) bs (λ b. b.lo)))).0

      below : (i : ℕ) → i < length (nodes (los bs)) → at (nodes r) i ≤ at (nodes (his bs)) i
      below zero h = omega arith
      below (suc i) h = (row_between bs r fit w i (omega (arith, map_length (biased bias) bs (λ b. b.lo)))).1

  -- and a row of the box is that of a row within bounds
  pub meets_row : (x : List ℕ) → Meets (box_of bs) x → T (within bs (row_of x)) × (nodes (row_of x) ≡ x)
  unfolding box_of
  meets_row [] m = absurd (let e = m.size ∙ nodes_length in omega (arith, e))
  meets_row (n ∷ x) m =
      let b = (box_rows_lem (nodes (los bs)) (nodes (his bs)) box_bounded (n ∷ x)).0 m in
      let e : length x ≡ length bs = omega (arith, m.size, nodes_length) in
      let l = map_length (biased bias) bs (λ b. b.lo) in (
        between_row bs x fit e (λ i h. (b.above (suc i) (omega (arith, l)), b.below (suc i) (omega (arith, l)))),
        rw (biased_back x, m.zero_at),
      )
