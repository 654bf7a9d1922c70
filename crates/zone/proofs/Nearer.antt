-- Laws of numbers that are listed, and of rows that are lowered in the places of listed nodes alone. Assumes nothing.
use mathlib.Core.Path.{◌≡◌, refl, sym, ap, ◌∙◌}
use mathlib.Core.Bool.{Bool, true, false, cond, ◌||◌, or-true, or-false, false≢true}
use mathlib.Core.List.Memᴰ
use mathlib.Core.List.{List, [], ◌∷◌, ◌++◌, append-nil}
use Prim.Native.Nat.{ℕ, zero, suc, ◌+◌, ◌-◌, ◌*◌, ◌<◌, ◌≤◌, min}
use native.Mathlib.Numerals.{add-one}
use native.Mathlib.Nat.{add-zero}
use native.Mathlib.Omega.{arith}
use lib.Dec.{T, eqb, eqb→eq, eqb_refl}
use mir.Val.{bool_byte}
use lib.ListN.{length, set, take, length-set}
use lib.Seq.{ext_get_or, get_or-set_same, get_or-set_other, take-suc}
use Rattle.std.proofs.lemmas.List.{take-set, take_more_set}
use Rattle.base.specs.Lists.{◌∈◌, any_of, filter, tabulate, range, at}
use Rattle.base.specs.Arrays.{filled}
use Rattle.base.proofs.Lists.{any_has, has_any, any_append, filter_has, has_filter}
use Rattle.base.proofs.Places.{element, range_has, range_in, filter_range, tabulate_length, tabulate_at, tabulated}
use Rattle.base.proofs.Arrays.{filled_length, filled_in, filled_before, filled_after}
use Rattle.base.proofs.Tests.{by_less, is_T, T-is}
use Rattle.zone.specs.Zone.{level}
use Rattle.zone.specs.Uses.{Lowers}
use Rattle.zone.specs.Passes.{lowered, lowered_at}

-- ---- Numbers, one after the other

-- of the first j numbers, those that pass f are the first m of a list
pub record Listing (f : ℕ → Bool) (j m : ℕ) (xs : List ℕ) : Type 0 where
  pub few : m ≤ j
  pub size : length xs ≡ 33
  pub so_far : take m xs ≡ filter f (range j)

-- number j is put behind them in any case, and counted if it is one
pub listing_turn : {f : ℕ → Bool} {j m : ℕ} {xs : List ℕ} → Listing f j m xs → j < 33 → {k : ℕ}
    → k ≡ bool_byte (f j) → (m + k ≤ j + 1) × Listing f (j + 1) (m + k) (set xs m j)
listing_turn {f} {j} {m} {xs} s h {k} counted = go (f j) refl
  where
    size : length (set xs m j) ≡ 33
    size = length-set xs m j ∙ s.size

    go : (b : Bool) → f j ≡ b → (m + k ≤ j + 1) × Listing f (j + 1) (m + k) (set xs m j)
    go true e =
        let one : k ≡ 1 = rw e at counted in
        let more : take (m + 1) (set xs m j) ≡ take m xs ++ j ∷ [] = take_more_set xs m j (omega (arith, s.few, s.size)) in
        let few : m + k ≤ j + 1 = omega (arith, s.few, one) in (
          few,
          record { few = few; size = size; so_far = rw (one, more, s.so_far, add-one j, filter_range f j, e) refl },
        )
    go false e =
        let none : k ≡ 0 = rw e at counted in
        let same : take m (set xs m j) ≡ take m xs = take-set xs m j in
        let few : m + k ≤ j + 1 = omega (arith, s.few, none) in (
          few,
          record {
            few = few;
            size = size;
            so_far = rw (none, add-zero, same, s.so_far, add-one j, filter_range f j, e)
                (sym (append-nil (filter f (range j))));
          },
        )

-- ---- The same from a number on

-- those of so many numbers from m on that pass f
abbrev pub onward : (ℕ → Bool) → ℕ → ℕ → List ℕ
onward f m zero = []
onward f m (suc left) = cond (f m) (m ∷ onward f (suc m) left) (onward f (suc m) left)

pub all_onward : (f : ℕ → Bool) (n : ℕ) → filter f (range n) ≡ onward f 0 n
all_onward f n = go n 0 (λ k. k) (λ k. omega arith)
  where
    go : (left m : ℕ) (g : ℕ → ℕ) → ((k : ℕ) → g k ≡ m + k) → filter f (tabulate left g) ≡ onward f m left
    go zero m g is = refl
    go (suc left) m g is =
        let here : g 0 ≡ m = omega (arith, is 0) in
        rw (here, go left (suc m) (λ k. g (suc k)) (λ k. omega (arith, is (suc k)))) refl

-- ---- What stands where

of_take : (n : ℕ) (xs : List ℕ) {x : ℕ} → x ∈ take n xs → x ∈ xs
of_take zero xs m = absurd (Memᴰ.not-nil m)
of_take (suc n) [] m = absurd (Memᴰ.not-nil m)
of_take (suc n) (y ∷ ys) (Memᴰ.head e) = Memᴰ.head e
of_take (suc n) (y ∷ ys) (Memᴰ.tail m) = Memᴰ.tail (of_take n ys m)

-- a place that is none of the nodes'
no_place : (nodes : List ℕ) (row k : ℕ) → ((j : ℕ) → j ∈ nodes → k ≡ row + j → ⊥) → any_of (λ j. eqb k (row + j)) nodes ≡ false
no_place nodes row k none = go (any_of (λ j. eqb k (row + j)) nodes) refl
  where
    go : (b : Bool) → any_of (λ j. eqb k (row + j)) nodes ≡ b → any_of (λ j. eqb k (row + j)) nodes ≡ false
    go true e = let (j, m, t) = any_has (λ j. eqb k (row + j)) nodes (is_T e) in absurd (none j m (eqb→eq k (row + j) t))
    go false e = e

module _ (nodes : List ℕ) (row from p : ℕ) (d : List ℕ) where
  pub lowered_length : length (lowered_at nodes row from p d) ≡ length d
  unfolding lowered_at
  lowered_length = tabulate_length (length d) _

  lowered_place : (k : ℕ) → k < length d → at (lowered_at nodes row from p d) k
      ≡ cond (any_of (λ j. eqb k (row + j)) nodes) (lowered row from p d (k - row)) (at d k)
  unfolding lowered_at
  lowered_place k h = tabulate_at (length d) _ k 0 h

-- ---- One node after the other

pub lowering_start : (row from p : ℕ) (d : List ℕ) → d ≡ lowered_at [] row from p d
unfolding lowered_at
lowering_start row from p d = tabulated d (λ k. at d k) (length d) 0 refl (λ i h. refl)

-- with the first i nodes done, d has become e
module _ {row from p : ℕ} {nodes d e : List ℕ} (u : Lowers row from p nodes d) {i : ℕ} (s : e ≡ lowered_at (take i nodes) row from p d)
    (more : i < length nodes) {j : ℕ} (is : j ≡ at nodes i) where
  this : j ∈ nodes
  this = rw is (element nodes i 0 more)

  size : length e ≡ length d
  size = ap length s ∙ lowered_length (take i nodes) row from p d

  -- the other row is as it was
  reads : at e (from + j) ≡ at d (from + j)
  reads = rw s (lowered_place (take i nodes) row from p d (from + j) (omega (arith, u.in_row j this, u.from_room))
      ∙ rw (no_place (take i nodes) row (from + j) (λ l m same. omega (arith, u.in_row j this, u.in_row l (of_take i nodes m), u.apart, same))) refl)

  pub lowering_asks : (row + j < length e) × (from + j < length e) × (2 * level ≤ p + at e (from + j)) × (at e (from + j) ≤ 2 * level)
  lowering_asks = (
    omega (arith, size, u.in_row j this, u.room),
    omega (arith, size, u.in_row j this, u.from_room),
    omega (arith, reads, u.low j this),
    omega (arith, reads, u.high j this),
  )

  -- the entry of a node that may have come before is as low as it was or as it will be
  least_again : (b : Bool) → min (cond b (lowered row from p d j) (at d (row + j))) (p + at d (from + j) - 2 * level) ≡ lowered row from p d j
  unfolding lowered
  least_again true = omega arith
  least_again false = refl

  pub lowering_turn : {v : ℕ} → v ≡ min (at e (row + j)) (p + at e (from + j) - 2 * level)
      → set e (row + j) v ≡ lowered_at (take (i + 1) nodes) row from p d
  lowering_turn {v} lower =
      ext_get_or 0 (set e (row + j) v) (lowered_at (take (i + 1) nodes) row from p d)
      (length-set e (row + j) v ∙ size ∙ sym (lowered_length (take (i + 1) nodes) row from p d))
      (λ k l.
      let h : k < length d = omega (arith, l, length-set e (row + j) v, size) in
      go k h (eqb k (row + j)) refl ∙ sym (lowered_place (take (i + 1) nodes) row from p d k h))
    where
      among : ℕ → Bool
      among k = any_of (λ j. eqb k (row + j)) (take i nodes)

      before : (k : ℕ) → k < length d → at e k ≡ cond (among k) (lowered row from p d (k - row)) (at d k)
      before k h = rw s (lowered_place (take i nodes) row from p d k h)

      with_this : (k : ℕ) → any_of (λ j. eqb k (row + j)) (take (i + 1) nodes) ≡ (among k || (eqb k (row + j) || false))
      with_this k = rw (add-one i, take-suc nodes i 0 more, ← is) (any_append (λ j. eqb k (row + j)) (take i nodes) (j ∷ []))

      own : row + j - row ≡ j
      own = omega arith

      go : (k : ℕ) → k < length d → (b : Bool) → eqb k (row + j) ≡ b
          → at (set e (row + j) v) k ≡ cond (any_of (λ j. eqb k (row + j)) (take (i + 1) nodes)) (lowered row from p d (k - row)) (at d k)
      go k h true b =
          let same : k ≡ row + j = eqb→eq k (row + j) (is_T b) in
          rw (with_this k, b, or-true, same)
          (get_or-set_same e (row + j) v 0 lowering_asks.0 ∙ lower
          ∙ rw (reads, before (row + j) (rw same at h), own) (least_again (among (row + j))))
      go k h false b =
          rw (with_this k, b, or-false)
          (get_or-set_other e (row + j) k v 0 (λ same. false≢true (sym b ∙ T-is (eqb k (row + j)) (rw same (eqb_refl (row + j))))) ∙ before k h)

-- ---- All of those that pass f: the whole row is lowered, where it stays as it is in the places of the others

module _ (f : ℕ → Bool) (row from p n : ℕ) (d : List ℕ) (room : row + n ≤ length d)
    (others : (j : ℕ) → j < n → f j ≡ false → lowered row from p d j ≡ at d (row + j)) where
  abbrev nodes : List ℕ
  nodes = filter f (range n)

  abbrev here : ℕ → Bool
  here k = any_of (λ j. eqb k (row + j)) nodes

  below : {j : ℕ} → j ∈ nodes → j < n
  below m = range_has n (filter_has f (range n) m).0

  passes : {j : ℕ} → j < n → f j ≡ true → T (here (row + j))
  passes {j} h t =
      has_any (λ l. eqb (row + j) (row + l)) (has_filter f (range_in n h) (is_T t)) (eqb_refl (row + j))

  outside : (k : ℕ) → ((j : ℕ) → j < n → k ≡ row + j → ⊥) → cond (here k) (lowered row from p d (k - row)) (at d k) ≡ at d k
  outside k none = rw (no_place nodes row k (λ j m. none j (below m))) refl

  inside : {j : ℕ} → j < n → cond (here (row + j)) (lowered row from p d (row + j - row)) (at d (row + j)) ≡ lowered row from p d j
  inside {j} h = rw own (go (here (row + j)) refl (f j) refl)
    where
      own : row + j - row ≡ j
      own = omega arith

      go : (b : Bool) → here (row + j) ≡ b → (t : Bool) → f j ≡ t → cond b (lowered row from p d j) (at d (row + j)) ≡ lowered row from p d j
      go true e t s = refl
      go false e false s = sym (others j h s)
      go false e true s = absurd (rw e at (passes h s))

  pub lowered_row : lowered_at nodes row from p d ≡ filled (lowered row from p d) row n d
  lowered_row =
      ext_get_or 0 (lowered_at nodes row from p d) (filled (lowered row from p d) row n d)
      (lowered_length nodes row from p d ∙ sym (filled_length (lowered row from p d) row n d))
      (λ k l.
      let h : k < length d = omega (arith, l, lowered_length nodes row from p d) in
      lowered_place nodes row from p d k h
      ∙ by_less k row
      (λ g. outside k (λ j m same. omega (arith, g, same)) ∙ sym (filled_before (lowered row from p d) row n d k 0 g))
      (λ g. by_less k (row + n)
      (λ m.
      let place : row + (k - row) ≡ k = omega arith in
      rw place at (inside {j = k - row} (omega arith) ∙ sym (filled_in (lowered row from p d) row n d (k - row) 0 room (omega arith))))
      (λ m. outside k (λ j r same. omega (arith, m, same)) ∙ sym (filled_after (lowered row from p d) row n d k 0 m))))
