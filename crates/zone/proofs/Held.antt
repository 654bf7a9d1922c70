-- A zone that lies in entries, and what is asked of it by its nodes, as the functions over entries ask it. Assumes nothing.
use mathlib.Core.Path.{◌≡◌, refl, sym, ◌∙◌, ap}
use mathlib.Core.List.{List, [], ◌∷◌, ◌++◌}
use Prim.Native.Nat.{ℕ, zero, suc, ◌+◌, ◌*◌, ◌<◌, ◌≤◌}
use native.Mathlib.Omega.{arith}
use lib.ListN.{length, take, drop, set, replicate}
use Rattle.std.proofs.lemmas.List.{length-set, length-replicate, get_or-set_same}
use Rattle.base.specs.Lists.{at}
use Rattle.words.specs.Bias.{bias}
use Rattle.zone.specs.Matrix.{matrix, entry}
use Rattle.zone.specs.declared.Constraint.{Constraint}
use Rattle.zone.specs.Zone.{Zone, Closed, level, point, boxed, constrained, kept}
use Rattle.zone.specs.Array.{zone_in, laid}
use Rattle.zone.specs.Uses.{InArray, Joins, NodeBounds, Constrains}
use Rattle.zone.proofs.Array.{zone_length}
use Rattle.zone.proofs.Ranges.{place_entry}
use Rattle.zone.proofs.Box.{box_length, box_closed}
use Rattle.zone.proofs.Answers.{kept_length, kept_closed}
use Rattle.zone.proofs.Laid.{laid_is, laid_in_array, copied_is}

module _ {n : ℕ} {d : List ℕ} {z : Zone} (u : InArray n d) (view : zone_in n d ≡ z) where
  pub nodes_are : n ≡ length z
  nodes_are = sym (zone_length n d) ∙ ap length view

  -- ---- What is asked

  pub constrains : {c : Constraint} → Joins (length z) c → Constrains n d c
  constrains b = record {
    in_array = u;
    left_in = omega (arith, nodes_are, b.left_in);
    right_in = omega (arith, nodes_are, b.right_in);
    most_fits = b.most_fits;
  }

  -- an entry is where it stands
  module _ {i j : ℕ} (r : (i < length z) × (j < length z)) where
    rows_in : (i < n) × (j < n)
    rows_in = (omega (arith, nodes_are, r.0), omega (arith, nodes_are, r.1))

    pub place_below : i * 33 + j < length d
    place_below = omega (arith, rows_in.0, rows_in.1, u.room, u.small)

    pub entry_is : at d (i * 33 + j) ≡ entry z i j
    entry_is = rw (← view) (place_entry u rows_in.0 rows_in.1)

  pub closed_is : Closed z
  closed_is = rw view at u.closed

  -- ---- What is left

  module _ {c : Constraint} {e : List ℕ} (b : Joins (length z) c) (done : e ≡ laid d (kept (zone_in n d) (constrained (zone_in n d) c))) where
    closed : Closed (kept z (constrained z c))
    closed = kept_closed z c (rw view at u.closed) b

    size : length (kept z (constrained z c)) ≡ n
    size = kept_length z c ∙ sym nodes_are

    pub kept_in_array : InArray n e
    kept_in_array = rw (done, view) (laid_in_array n d _ u.room u.small closed size)

    pub kept_is : zone_in n e ≡ kept z (constrained z c)
    kept_is = rw (done, view) (laid_is n d _ u.room u.small closed size)

  pub copy_is : (to : List ℕ) {rows : List ℕ} → n * 33 ≤ length to → rows ≡ take (n * 33) d → zone_in n (rows ++ drop (n * 33) to) ≡ z
  copy_is to room same = copied_is to u room same ∙ view

-- ---- A box

module _ (d : List ℕ) {e lo hi : List ℕ} (b : NodeBounds lo hi) (room : length lo * 33 ≤ length d) (small : length lo ≤ 33)
    (done : e ≡ laid d (boxed lo hi)) where
  pub box_in_array : InArray (length lo) e
  box_in_array = rw done (laid_in_array (length lo) d (boxed lo hi) room small (box_closed lo hi b) (box_length lo hi b))

  pub box_is : zone_in (length lo) e ≡ boxed lo hi
  box_is = rw done (laid_is (length lo) d (boxed lo hi) room small (box_closed lo hi b) (box_length lo hi b))

-- ---- Node 0 alone

alone : NodeBounds (bias ∷ []) (bias ∷ [])
alone = record {
  some_node = omega arith;
  same = refl;
  zero_lo = refl;
  zero_hi = refl;
  ordered = λ i h. refl_le (at (bias ∷ []) i);
  limited = limit;
}
  where
    refl_le : (n : ℕ) → n ≤ n
    refl_le n = omega arith

    limit : (i : ℕ) → i < 1 → at (bias ∷ []) i ≤ 2 * bias
    limit zero h = omega arith
    limit (suc i) h = omega arith

point_closed : Closed point
unfolding boxed matrix
point_closed = box_closed (bias ∷ []) (bias ∷ []) alone

module _ (size : ℕ) (room : 33 ≤ size) where
  pub point_is : zone_in 1 (set (replicate size 0) 0 level) ≡ point
  unfolding zone_in matrix
  point_is = ap (λ (e : ℕ). (e ∷ []) ∷ []) (get_or-set_same (replicate size 0) 0 level 0 (omega (arith, length-replicate {A = ℕ} size 0)))

  pub point_in_array : InArray 1 (set (replicate size 0) 0 level)
  point_in_array = record {
    room = omega (arith, length-set (replicate size 0) 0 level, length-replicate {A = ℕ} size 0);
    small = omega arith;
    closed = rw point_is point_closed;
  }
