-- What stands at each place of a list, and lists that are given by it. Assumes nothing.
use mathlib.Core.Path.{◌≡◌, refl, sym, ap, ◌∙◌}
use mathlib.Core.Bool.{Bool, not}
use mathlib.Core.List.Memᴰ
use mathlib.Core.List.{List, [], ◌∷◌, ◌++◌, map}
use Prim.Native.Nat.{ℕ, zero, suc, ◌+◌, ◌<◌, ◌≤◌}
use native.Mathlib.Omega.{arith}
use lib.ListN.{length, get_or, take, replicate}
use lib.Seq.{ext_get_or, get_or-append-add, length-take-le, get_or-take}
use lib.Dec.{T}
use mir.Facts.{and_yes, yes_and}
use Rattle.base.specs.Lists.{◌∈◌, any_of, all_of, filter, pairwise, tabulate, range}
use Rattle.base.proofs.Tests.{not_and}
use Rattle.base.proofs.Lists.{filter_append}

module _ {A : Type 0} where
  pub element : (xs : List A) (i : ℕ) (d : A) → i < length xs → get_or xs i d ∈ xs
  element [] i d h = absurd (omega arith)
  element (x ∷ xs) zero d h = Memᴰ.head refl
  element (x ∷ xs) (suc i) d h = Memᴰ.tail (element xs i d (omega arith))

  -- an element passes where all do
  pub all_at : (p : A → Bool) (xs : List A) (k : ℕ) (d : A) → T (all_of p xs) → k < length xs → T (p (get_or xs k d))
  all_at p [] k d t h = absurd (omega arith)
  all_at p (x ∷ xs) zero d t h = (and_yes (p x) (all_of p xs) t).0
  all_at p (x ∷ xs) (suc k) d t h = all_at p xs k d (and_yes (p x) (all_of p xs) t).1 (omega arith)

  pub behind_at : (xs ys : List A) (n i : ℕ) (d : A) → length xs ≡ n → get_or (xs ++ ys) (n + i) d ≡ get_or ys i d
  behind_at xs ys n i d e = rw (← e) (get_or-append-add xs ys i d)

  pub replicate_at : (n i : ℕ) (d : A) → get_or (replicate n d) i d ≡ d
  replicate_at zero i d = refl
  replicate_at (suc n) zero d = refl
  replicate_at (suc n) (suc i) d = replicate_at n i d

-- whatever stands for what isn't there
pub map_at : {A B : Type 0} (f : A → B) (xs : List A) (i : ℕ) (d : A) (e : B) → i < length xs → get_or (map f xs) i e ≡ f (get_or xs i d)
map_at f [] i d e h = absurd (omega arith)
map_at f (x ∷ xs) zero d e h = refl
map_at f (x ∷ xs) (suc i) d e h = map_at f xs i d e (omega arith)

-- ---- a list that is given by what stands at each place
module _ {A : Type 0} where
  pub tabulate_length : (n : ℕ) (f : ℕ → A) → length (tabulate n f) ≡ n
  tabulate_length zero f = refl
  tabulate_length (suc n) f = ap suc (tabulate_length n (λ k. f (suc k)))

  pub tabulate_at : (n : ℕ) (f : ℕ → A) (i : ℕ) (d : A) → i < n → get_or (tabulate n f) i d ≡ f i
  tabulate_at zero f i d h = absurd (omega arith)
  tabulate_at (suc n) f zero d h = refl
  tabulate_at (suc n) f (suc i) d h = tabulate_at n (λ k. f (suc k)) i d (omega arith)

  pub tabulated : (xs : List A) (f : ℕ → A) (n : ℕ) (d : A) → length xs ≡ n → ((i : ℕ) → i < n → get_or xs i d ≡ f i) → xs ≡ tabulate n f
  tabulated xs f n d e h =
      ext_get_or d xs (tabulate n f) (e ∙ sym (tabulate_length n f)) (λ i l. h i (omega arith) ∙ sym (tabulate_at n f i d (omega arith)))

  pub tabulate_cong : (n : ℕ) (f g : ℕ → A) → ((i : ℕ) → i < n → f i ≡ g i) → tabulate n f ≡ tabulate n g
  tabulate_cong zero f g h = refl
  tabulate_cong (suc n) f g h = rw (h 0 (omega arith), tabulate_cong n (λ k. f (suc k)) (λ k. g (suc k)) (λ i l. h (suc i) (omega arith)))

  -- one more
  pub tabulate_snoc : (n : ℕ) (f : ℕ → A) → tabulate (suc n) f ≡ tabulate n f ++ f n ∷ []
  tabulate_snoc zero f = refl
  tabulate_snoc (suc n) f = ap (λ (m : List A). f 0 ∷ m) (tabulate_snoc n (λ k. f (suc k)))

  pub tabulate_has : (n : ℕ) (f : ℕ → A) {x : A} → x ∈ tabulate n f → (i : ℕ) × (i < n) × (f i ≡ x)
  tabulate_has zero f m = absurd (Memᴰ.not-nil m)
  tabulate_has (suc n) f (Memᴰ.head e) = (0, omega arith, sym e)
  tabulate_has (suc n) f (Memᴰ.tail m) = let (i, h, e) = tabulate_has n (λ k. f (suc k)) m in (suc i, omega arith, e)

  pub all_tabulated : (p : A → Bool) (n : ℕ) (f : ℕ → A) → ((i : ℕ) → i < n → T (p (f i))) → T (all_of p (tabulate n f))
  all_tabulated p zero f h = tt
  all_tabulated p (suc n) f h =
      yes_and (p (f 0)) (all_of p (tabulate n (λ i. f (suc i)))) (h 0 (omega arith))
      (all_tabulated p n (λ i. f (suc i)) (λ i l. h (suc i) (omega arith)))

-- the same at every place
pub tabulate_same : {A : Type 0} (n : ℕ) (x : A) → tabulate n (λ i. x) ≡ replicate n x
tabulate_same zero x = refl
tabulate_same (suc n) x = ap (λ (m : List _). x ∷ m) (tabulate_same n x)

-- the image of a list
pub tabulate_map : {A B : Type 0} (f : A → B) (xs : List A) (d : A) → tabulate (length xs) (λ i. f (get_or xs i d)) ≡ map f xs
tabulate_map f [] d = refl
tabulate_map f (x ∷ xs) d = ap (λ (m : List _). f x ∷ m) (tabulate_map f xs d)

-- the first elements of a list
pub tabulate_take : {A : Type 0} (n : ℕ) (xs : List A) (d : A) → n ≤ length xs → tabulate n (λ i. get_or xs i d) ≡ take n xs
tabulate_take n xs d h = sym (tabulated (take n xs) (λ i. get_or xs i d) n d (length-take-le n xs h) (λ i l. get_or-take n xs i d l))

pub map_tabulate : {A B : Type 0} (g : A → B) (n : ℕ) (f : ℕ → A) → map g (tabulate n f) ≡ tabulate n (λ i. g (f i))
map_tabulate g zero f = refl
map_tabulate g (suc n) f = ap (λ (m : List _). g (f 0) ∷ m) (map_tabulate g n (λ k. f (suc k)))

-- ---- the numbers below n
pub range_has : (n : ℕ) {c : ℕ} → c ∈ range n → c < n
range_has n m = let (i, h, e) = tabulate_has n (λ k. k) m in rw (← e) h

pub range_in : (n : ℕ) {c : ℕ} → c < n → c ∈ range n
range_in n {c} h = rw (tabulate_at n (λ k. k) c 0 h) at (element (range n) c 0 (omega (arith, tabulate_length n (λ k. k))))

pub filter_range : (p : ℕ → Bool) (n : ℕ) → filter p (range (suc n)) ≡ filter p (range n) ++ filter p (n ∷ [])
filter_range p n = ap (filter p) (tabulate_snoc n (λ k. k)) ∙ filter_append p (range n) (n ∷ [])

-- ---- two lists, place by place
module _ {A B : Type 0} (p : A → B → Bool) where
  pub pairwise_at : (xs : List A) (ys : List B) (d : A) (e : B) → T (pairwise p xs ys) → (i : ℕ) → i < length xs → T (p (get_or xs i d) (get_or ys i e))
  pairwise_at [] [] d e t i h = absurd (omega arith)
  pairwise_at [] (y ∷ ys) d e t i h = absurd t
  pairwise_at (x ∷ xs) [] d e t i h = absurd t
  pairwise_at (x ∷ xs) (y ∷ ys) d e t zero h = (and_yes (p x y) (pairwise p xs ys) t).0
  pairwise_at (x ∷ xs) (y ∷ ys) d e t (suc i) h = pairwise_at xs ys d e (and_yes (p x y) (pairwise p xs ys) t).1 i (omega arith)

  pub at_pairwise : (xs : List A) (ys : List B) (d : A) (e : B) → length ys ≡ length xs
      → ((i : ℕ) → i < length xs → T (p (get_or xs i d) (get_or ys i e))) → T (pairwise p xs ys)
  at_pairwise [] [] d e l h = tt
  at_pairwise [] (y ∷ ys) d e l h = absurd (omega arith)
  at_pairwise (x ∷ xs) [] d e l h = absurd (omega arith)
  at_pairwise (x ∷ xs) (y ∷ ys) d e l h =
      yes_and (p x y) (pairwise p xs ys) (h zero (omega arith)) (at_pairwise xs ys d e (omega arith) (λ i lt. h (suc i) (omega arith)))

  -- of images of one list
  pub pairwise_maps : {C : Type 0} (f : C → A) (g : C → B) (cs : List C) → ((c : C) → c ∈ cs → T (p (f c) (g c))) → T (pairwise p (map f cs) (map g cs))
  pairwise_maps f g [] h = tt
  pairwise_maps f g (c ∷ cs) h =
      yes_and (p (f c) (g c)) (pairwise p (map f cs) (map g cs)) (h c (Memᴰ.head refl)) (pairwise_maps f g cs (λ y m. h y (Memᴰ.tail m)))

  pub maps_pairwise : {C : Type 0} (f : C → A) (g : C → B) {c : C} {cs : List C} → c ∈ cs → T (pairwise p (map f cs) (map g cs)) → T (p (f c) (g c))
  maps_pairwise f g (Memᴰ.head {x = x} {xs = xs} e) t = rw e (and_yes (p (f x) (g x)) (pairwise p (map f xs) (map g xs)) t).0
  maps_pairwise f g (Memᴰ.tail {x = x} {xs = xs} m) t =
      maps_pairwise f g m (and_yes (p (f x) (g x)) (pairwise p (map f xs) (map g xs)) t).1

  -- not alike in some place
  pub maps_differ : {C : Type 0} (f : C → A) (g : C → B) (cs : List C) → not (pairwise p (map f cs) (map g cs)) ≡ any_of (λ c. not (p (f c) (g c))) cs
  maps_differ f g [] = refl
  maps_differ f g (c ∷ cs) = rw (← (maps_differ f g cs)) (sym (not_and (p (f c) (g c)) (pairwise p (map f cs) (map g cs))))
