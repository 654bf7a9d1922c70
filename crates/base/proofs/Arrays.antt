-- Lists in arrays, and the one law of a loop that fills an array place by place. Assumes nothing.
use mathlib.Core.Path.{◌≡◌, refl, sym, ap, ◌∙◌}
use mathlib.Core.Logic.{⊎_elim}
use mathlib.Core.List.Memᴰ
use mathlib.Core.List.{List, [], ◌∷◌, ◌++◌, map, append_assoc, append-nil}
use Prim.Native.Nat.{ℕ, zero, suc, ◌+◌, ◌-◌, ◌≤◌, ◌<◌}
use native.Mathlib.Omega.{arith}
use native.Mathlib.Numerals.{add-one, unary_clauses}
use native.Mathlib.Nat.{eq-or-lt_of_le, le_of_suc-le-suc, zero-add}
use lib.ListN.{length, get_or, set, take, drop, replicate, length-append, length-set, length-replicate, length-drop, drop_of_length-le, get_or-append}
use lib.Seq.{length-take-le, set-append_seam, set-append_left, get_or-append-add, get_or-set_same, get_or-set_other, set-get_or, set-set, set_comm, ext_get_or, take-append_seam, drop-append_seam, get_or-drop}
use Rattle.base.specs.Lists.{◌∈◌, tabulate}
use Rattle.base.specs.Arrays.{padded, EmptyPast, filled}
use Rattle.base.proofs.Tests.{by_less}
use Rattle.base.proofs.Places.{behind_at, replicate_at, tabulated, tabulate_length, tabulate_at, tabulate_snoc, tabulate_map}

-- ---- a list in an array

module _ {A : Type 0} (n : ℕ) (d : A) (l : List A) where
  pub padded_length : length l ≤ n → length (padded n d l) ≡ n
  padded_length h = length-append l (replicate (n - length l) d) ∙ rw (length-replicate (n - length l) d) (omega arith)

  pub get_or_padded : (i : ℕ) (e : A) → i < length l → get_or (padded n d l) i e ≡ get_or l i e
  get_or_padded i e h = get_or-append l (replicate (n - length l) d) e i h

  pub set_padded : (i : ℕ) (x : A) → i < length l → set (padded n d l) i x ≡ padded n d (set l i x)
  set_padded i x h = rw (length-set l i x) (set-append_left l (replicate (n - length l) d) i x h)

  -- one element more
  pub padded_more : (x : A) → length l < n → set (padded n d l) (length l) x ≡ padded n d (l ++ x ∷ [])
  padded_more x h =
      let m : n - length l ≡ suc (n - (length l + 1)) = omega arith in
      rw (m, length-append l (x ∷ []), append_assoc) (set-append_seam l d (replicate (n - (length l + 1)) d) x)

  -- one empty one more
  pub padded_same : length l < n → padded n d l ≡ padded n d (l ++ d ∷ [])
  padded_same h =
      let m : n - length l ≡ suc (n - (length l + 1)) = omega arith in
      rw (m, length-append l (d ∷ []), append_assoc)

  pub take_padded : (k : ℕ) → k ≡ length l → take k (padded n d l) ≡ l
  take_padded k e = rw e (take-append_seam l _)

  -- past the list
  pub drop_padded : (k : ℕ) → k ≡ length l → EmptyPast n d k (padded n d l)
  drop_padded k e = rw e (drop-append_seam l (replicate (n - length l) d))

  pub padded_past : (i : ℕ) → length l ≤ i → get_or (padded n d l) i d ≡ d
  padded_past i h =
      let e : length l + (i - length l) ≡ i = omega arith in
      ap (λ (k : ℕ). get_or (padded n d l) k d) (sym e) ∙ get_or-append-add l (replicate (n - length l) d) (i - length l) d
      ∙ replicate_at (n - length l) (i - length l) d

-- ---- a list that is given by what stands at each place, in an array
module _ {A : Type 0} (n : ℕ) (d : A) (w : ℕ) (f : ℕ → A) where
  pub entries_length : w ≤ n → length (padded n d (tabulate w f)) ≡ n
  entries_length h = padded_length n d (tabulate w f) (omega (arith, tabulate_length w f))

  pub entries_at : (c : ℕ) (e : A) → c < w → get_or (padded n d (tabulate w f)) c e ≡ f c
  entries_at c e h = get_or_padded n d (tabulate w f) c e (omega (arith, tabulate_length w f)) ∙ tabulate_at w f c e h

  pub entries_past : (c : ℕ) → w ≤ c → get_or (padded n d (tabulate w f)) c d ≡ d
  entries_past c h = padded_past n d (tabulate w f) c (omega (arith, tabulate_length w f))

  -- one more
  pub entries_more : w < n → set (padded n d (tabulate w f)) w (f w) ≡ padded n d (tabulate (w + 1) f)
  entries_more h =
      ap (λ (i : ℕ). set (padded n d (tabulate w f)) i (f w)) (sym (tabulate_length w f))
      ∙ padded_more n d (tabulate w f) (f w) (omega (arith, tabulate_length w f)) ∙ rw (add-one w, ← tabulate_snoc w f)

pub drop_replicate : {A : Type 0} (n m : ℕ) (d : A) → drop n (replicate m d) ≡ replicate (m - n) d
drop_replicate zero m d = simp unary_clauses
drop_replicate (suc n) zero d = let e : 0 - suc n ≡ 0 = omega arith in rw e
drop_replicate (suc n) (suc m) d = simp unary_clauses (drop_replicate n m d)

-- what holds of each element and of the empty one holds at each place
module _ {A : Type 0} (P : A → Type 0) (d e : A) (empty : P d) (none : P e) where
  replicate_each : (n i : ℕ) → P (get_or (replicate n d) i e)
  replicate_each zero i = none
  replicate_each (suc n) zero = empty
  replicate_each (suc n) (suc i) = replicate_each n i

  append_each : (n : ℕ) (l : List A) → ((x : A) → x ∈ l → P x) → (i : ℕ) → P (get_or (l ++ replicate n d) i e)
  append_each n [] h i = replicate_each n i
  append_each n (x ∷ l) h zero = h x (Memᴰ.head refl)
  append_each n (x ∷ l) h (suc i) = append_each n l (λ y m. h y (Memᴰ.tail m)) i

  pub padded_each : (n : ℕ) (l : List A) → ((x : A) → x ∈ l → P x) → (i : ℕ) → P (get_or (padded n d l) i e)
  padded_each n l = append_each (n - length l) l

-- ---- places that are filled, one after the other: what then stands where

module _ {A : Type 0} where
  pub filled_length : (f : ℕ → A) (from n : ℕ) (xs : List A) → length (filled f from n xs) ≡ length xs
  unfolding filled
  filled_length f from zero xs = refl
  filled_length f from (suc n) xs = length-set (filled f from n xs) (from + n) (f n) ∙ filled_length f from n xs

  pub filled_in : (f : ℕ → A) (from n : ℕ) (xs : List A) (j : ℕ) (d : A) → from + n ≤ length xs → j < n → get_or (filled f from n xs) (from + j) d ≡ f j
  unfolding filled
  filled_in f from zero xs j d fits h = absurd (omega arith)
  filled_in f from (suc n) xs j d fits h =
      ⊎_elim
      (λ (e : j ≡ n). rw e (get_or-set_same (filled f from n xs) (from + n) (f n) d (omega (arith, filled_length f from n xs))))
      (λ (l : j < n). get_or-set_other (filled f from n xs) (from + n) (from + j) (f n) d (omega arith) ∙ filled_in f from n xs j d (omega arith) l)
      (eq-or-lt_of_le (le_of_suc-le-suc h))

  pub filled_before : (f : ℕ → A) (from n : ℕ) (xs : List A) (k : ℕ) (d : A) → k < from → get_or (filled f from n xs) k d ≡ get_or xs k d
  unfolding filled
  filled_before f from zero xs k d h = refl
  filled_before f from (suc n) xs k d h =
      get_or-set_other (filled f from n xs) (from + n) k (f n) d (omega arith) ∙ filled_before f from n xs k d h

  pub filled_after : (f : ℕ → A) (from n : ℕ) (xs : List A) (k : ℕ) (d : A) → from + n ≤ k → get_or (filled f from n xs) k d ≡ get_or xs k d
  unfolding filled
  filled_after f from zero xs k d h = refl
  filled_after f from (suc n) xs k d h =
      get_or-set_other (filled f from n xs) (from + n) k (f n) d (omega arith) ∙ filled_after f from n xs k d (omega arith)

  -- a place behind them may be set before or after
  pub filled_set : (f : ℕ → A) (from n k : ℕ) (x : A) (xs : List A) → from + n ≤ k → filled f from n (set xs k x) ≡ set (filled f from n xs) k x
  unfolding filled
  filled_set f from zero k x xs h = refl
  filled_set f from (suc n) k x xs h =
      rw (filled_set f from n k x xs (omega arith)) (set_comm (filled f from n xs) k (from + n) x (f n) (λ e. omega arith))

  -- the values count, not how they are found
  pub filled_cong : (f g : ℕ → A) (from n : ℕ) (xs : List A) → ((j : ℕ) → j < n → f j ≡ g j) → filled f from n xs ≡ filled g from n xs
  unfolding filled
  filled_cong f g from zero xs h = refl
  filled_cong f g from (suc n) xs h = rw (h n (omega arith), filled_cong f g from n xs (λ j l. h j (omega arith)))

  -- what stood there already
  pub filled_same : (f : ℕ → A) (from n : ℕ) (xs : List A) (d : A) → ((j : ℕ) → j < n → f j ≡ get_or xs (from + j) d) → filled f from n xs ≡ xs
  unfolding filled
  filled_same f from zero xs d h = refl
  filled_same f from (suc n) xs d h =
      rw (filled_same f from n xs d (λ j l. h j (omega arith)), h n (omega arith)) (set-get_or xs (from + n) d)

  -- of two passes over the same places the second counts
  pub filled_again : (f g : ℕ → A) (from n : ℕ) (xs : List A) → filled f from n (filled g from n xs) ≡ filled f from n xs
  unfolding filled
  filled_again f g from zero xs = refl
  filled_again f g from (suc n) xs =
      rw (filled_set f from n (from + n) (g n) (filled g from n xs) (omega arith), filled_again f g from n xs, set-set)

  -- from the first place on: f's values, and behind them what was there
  pub filled_front : (f : ℕ → A) (n : ℕ) (xs : List A) → n ≤ length xs → filled f 0 n xs ≡ tabulate n f ++ drop n xs
  filled_front f n xs h =
      ext_get_or (f 0) (filled f 0 n xs) (tabulate n f ++ drop n xs)
      (filled_length f 0 n xs ∙ sym (length-append (tabulate n f) (drop n xs) ∙ rw (tabulate_length n f, length-drop n xs) (omega arith)))
      (λ i l. by_less i n before behind)
    where
      before : {i : ℕ} → i < n → get_or (filled f 0 n xs) i (f 0) ≡ get_or (tabulate n f ++ drop n xs) i (f 0)
      before {i} k =
          (rw zero-add at (filled_in f 0 n xs i (f 0) (omega arith) k))
          ∙ sym (get_or-append (tabulate n f) (drop n xs) (f 0) i (rw (tabulate_length n f) k) ∙ tabulate_at n f i (f 0) k)

      behind : {i : ℕ} → n ≤ i → get_or (filled f 0 n xs) i (f 0) ≡ get_or (tabulate n f ++ drop n xs) i (f 0)
      behind {i} k =
          let place : n + (i - n) ≡ i = omega arith in
          filled_after f 0 n xs i (f 0) (omega arith)
          ∙ sym (rw place at (behind_at (tabulate n f) (drop n xs) n (i - n) (f 0) (tabulate_length n f) ∙ get_or-drop n xs (i - n) (f 0)))

  -- from the first place to the last
  pub filled_whole : (f : ℕ → A) (n : ℕ) (xs : List A) → length xs ≡ n → filled f 0 n xs ≡ tabulate n f
  filled_whole f n xs full = filled_front f n xs (omega arith) ∙ rw (drop_of_length-le xs {i = n} (omega arith), append-nil)

-- ---- The loop that fills them

-- with n of its `all` turns made, xs has become ys
pub record Pass {A : Type 0} (f : ℕ → A) (from all n : ℕ) (xs ys : List A) : Type 0 where
  pub within : n ≤ all
  pub size : length ys ≡ length xs
  pub so_far : ys ≡ filled f from n xs

module _ {A : Type 0} where
  pub pass_start : (f : ℕ → A) (from all : ℕ) (xs : List A) → Pass f from all 0 xs xs
  unfolding filled
  pass_start f from all xs = record { within = omega arith; size = refl; so_far = refl }

  -- what is there already counts as filled
  pub pass_there : (f : ℕ → A) (from : ℕ) {all n : ℕ} (xs : List A) (d : A) → n ≤ all → ((j : ℕ) → j < n → f j ≡ get_or xs (from + j) d) → Pass f from all n xs xs
  pass_there f from {n = n} xs d few same = record { within = few; size = refl; so_far = sym (filled_same f from n xs d same) }

  module _ {f : ℕ → A} {from all n : ℕ} {xs ys : List A} (s : Pass f from all n xs ys) where
    pub pass_turn : {v : A} → n < all → v ≡ f n → Pass f from all (n + 1) xs (set ys (from + n) v)
    unfolding filled
    pass_turn {v} more same = record {
      within = omega arith;
      size = length-set ys (from + n) v ∙ s.size;
      so_far = rw (add-one, s.so_far, same);
    }

    pub pass_end : all ≤ n → ys ≡ filled f from all xs
    pass_end past = let e : n ≡ all = omega (arith, s.within) in rw e at s.so_far

    -- what is still to be filled is as it was
    pub pass_ahead : (d : A) {k : ℕ} → from + n ≤ k → get_or ys k d ≡ get_or xs k d
    pass_ahead d {k} h = rw s.so_far (filled_after f from n xs k d h)

  -- the same from the first place on
  module _ {f : ℕ → A} {all n : ℕ} {xs ys : List A} (s : Pass f 0 all n xs ys) where
    pub front_turn : {v : A} → n < all → v ≡ f n → Pass f 0 all (n + 1) xs (set ys n v)
    front_turn more same = rw zero-add at (pass_turn s more same)

    front_part : all ≤ n → all ≤ length xs → ys ≡ tabulate all f ++ drop all xs
    front_part past room = pass_end s past ∙ filled_front f all xs room

    pub front_end : all ≤ n → length xs ≡ all → ys ≡ tabulate all f
    front_end past full = pass_end s past ∙ filled_whole f all xs full

  -- with the elements of a list of that length
  pub front_list : (d : A) (list : List A) {all n : ℕ} {xs ys : List A} → Pass (λ i. get_or list i d) 0 all n xs ys → all ≤ n → length xs ≡ all → length list ≡ all
      → ys ≡ list
  front_list d list {all} s past full size = front_end s past full ∙ sym (tabulated list (λ i. get_or list i d) all d size (λ i h. refl))

  -- in an array of empty entries
  pub front_padded : (d : A) {f : ℕ → A} {m all n : ℕ} {ys : List A} → Pass f 0 all n (replicate m d) ys → all ≤ n → all ≤ m → ys ≡ padded m d (tabulate all f)
  front_padded d {f} {m} {all} s past room =
      front_part s past (omega (arith, length-replicate m d)) ∙ rw (tabulate_length all f, drop_replicate all m d)

  -- in the front of such an array, as a slice of it
  module _ (d : A) {m all : ℕ} (room : all ≤ m) where
    pub front_size : length (take all (replicate m d)) ≡ all
    front_size = length-take-le all (replicate m d) (omega (arith, length-replicate m d))

    pub front_slice : {f : ℕ → A} {n : ℕ} {ys : List A} → Pass f 0 all n (take all (replicate m d)) ys → all ≤ n
        → ys ++ drop all (replicate m d) ≡ padded m d (tabulate all f)
    front_slice {f} s past = rw (front_end s past front_size, drop_replicate all m d, tabulate_length all f)

-- with the images of another list's elements
pub front_map : {A B : Type 0} (g : A → B) (d : A) (from : List A) {n : ℕ} {xs ys : List B} → Pass (λ i. g (get_or from i d)) 0 (length from) n xs ys
    → length from ≤ n → length xs ≡ length from → ys ≡ map g from
front_map g d from s past full = front_end s past full ∙ tabulate_map g from d
