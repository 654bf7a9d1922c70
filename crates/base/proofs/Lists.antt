-- Laws of the words for lists. Assumes nothing.
use mathlib.Core.Path.{◌≡◌, refl, sym, ap, ◌∙◌}
use mathlib.Core.Logic.{◌⊎◌, inl, inr}
use mathlib.Core.Bool.{Bool, true, false, not, cond, or_assoc, and_assoc, and-or_distrib_right, ◌&&◌, ◌||◌}
use mathlib.Core.List.Memᴰ
use mathlib.Core.List.{List, [], ◌∷◌, ◌++◌, map, append-nil, append_assoc}
use mathlib.Core.Option.{none, some, none-ne-some, some-injective}
use Prim.Native.Nat.{ℕ, zero, suc, ◌+◌, ◌≤◌}
use native.Mathlib.Omega.{arith}
use lib.ListN.{length, take, drop, replicate, length-append}
use mir.Facts.{and_yes, yes_and, or_yes}
use lib.Dec.{T, T_not}
use Rattle.std.specs.List.{list_any}
use Rattle.base.specs.Lists.{◌∈◌, SameSet, Distinct, any_of, all_of, filter, find, once, concat, is_empty, flat_map, pairwise, last_of, in_last}
use Rattle.base.proofs.Tests.{T-is, or_left, or_right, neither}

module _ {A : Type 0} where
  -- ---- any and all
  -- the library's word says what the definitions' does
  pub any_is : (p : A → Bool) (xs : List A) → list_any p xs ≡ any_of p xs
  any_is p [] = refl
  any_is p (x ∷ xs) = rw (any_is p xs)

  pub any_has : (p : A → Bool) (xs : List A) → T (any_of p xs) → (x : A) × (x ∈ xs) × T (p x)
  any_has p [] t = absurd t
  any_has p (x ∷ xs) t = step (or_yes (p x) (any_of p xs) t) (any_has p xs)
    where
      step : T (p x) ⊎ T (any_of p xs) → (T (any_of p xs) → (y : A) × (y ∈ xs) × T (p y)) → (y : A) × (y ∈ (x ∷ xs)) × T (p y)
      step (inl h) below = (x, Memᴰ.head refl, h)
      step (inr h) below = let z = below h in (z.0, Memᴰ.tail z.1, z.2)

  pub has_any : (p : A → Bool) {x : A} {xs : List A} → x ∈ xs → T (p x) → T (any_of p xs)
  has_any p (Memᴰ.head {x = y} {xs = ys} e) t = or_left (p y) (any_of p ys) (rw e at t)
  has_any p (Memᴰ.tail {x = y} {xs = ys} m) t = or_right (p y) (any_of p ys) (has_any p m t)

  pub all_has : (p : A → Bool) {x : A} {xs : List A} → x ∈ xs → T (all_of p xs) → T (p x)
  all_has p (Memᴰ.head {x = y} {xs = ys} e) t = rw e (and_yes (p y) (all_of p ys) t).0
  all_has p (Memᴰ.tail {x = y} {xs = ys} m) t = all_has p m (and_yes (p y) (all_of p ys) t).1

  pub has_all : (p : A → Bool) (xs : List A) → ((x : A) → x ∈ xs → T (p x)) → T (all_of p xs)
  has_all p [] h = tt
  has_all p (x ∷ xs) h = yes_and (p x) (all_of p xs) (h x (Memᴰ.head refl)) (has_all p xs (λ y m. h y (Memᴰ.tail m)))

  -- ---- those that pass
  pub filter_has : (p : A → Bool) (xs : List A) {x : A} → x ∈ filter p xs → (x ∈ xs) × T (p x)
  filter_has p [] m = absurd (Memᴰ.not-nil m)
  filter_has p (y ∷ ys) {x} m = go (p y) refl m (filter_has p ys)
    where
      split : p y ≡ true → (x ∈ filter p ys → (x ∈ ys) × T (p x)) → (x ≡ y) ⊎ (x ∈ filter p ys) → (x ∈ (y ∷ ys)) × T (p x)
      split e below (inl q) = (Memᴰ.head q, rw (q, e) tt)
      split e below (inr n) = let h = below n in (Memᴰ.tail h.0, h.1)

      go : (b : Bool) → p y ≡ b → x ∈ cond b (y ∷ filter p ys) (filter p ys) → (x ∈ filter p ys → (x ∈ ys) × T (p x)) → (x ∈ (y ∷ ys)) × T (p x)
      go true e n below = split e below (Memᴰ.cases_cons n)
      go false e n below = let h = below n in (Memᴰ.tail h.0, h.1)

  pub has_filter : (p : A → Bool) {x : A} {xs : List A} → x ∈ xs → T (p x) → x ∈ filter p xs
  has_filter p (Memᴰ.head {x = y} {xs = ys} e) t = rw (T-is (p y) (rw e at t)) (Memᴰ.head e)
  has_filter p {x} (Memᴰ.tail {x = y} {xs = ys} m) t = go (p y) (has_filter p m t)
    where
      go : (b : Bool) → x ∈ filter p ys → x ∈ cond b (y ∷ filter p ys) (filter p ys)
      go true n = Memᴰ.tail n
      go false n = n

  -- ---- the first that passes
  pub find_some : (p : A → Bool) (xs : List A) {x : A} → find p xs ≡ some x → (x ∈ xs) × T (p x)
  find_some p [] {x} e = absurd (none-ne-some x e)
  find_some p (y ∷ ys) {x} e = go (p y) refl e (find_some p ys)
    where
      go : (b : Bool) → p y ≡ b → cond b (some y) (find p ys) ≡ some x → (find p ys ≡ some x → (x ∈ ys) × T (p x)) → (x ∈ (y ∷ ys)) × T (p x)
      go true h f below = let q : x ≡ y = sym (some-injective y x f) in (Memᴰ.head q, rw (q, h) tt)
      go false h f below = let z = below f in (Memᴰ.tail z.0, z.1)

  pub find_none : (p : A → Bool) {x : A} {xs : List A} → x ∈ xs → T (p x) → find p xs ≡ none → ⊥
  find_none p (Memᴰ.head {x = y} {xs = ys} e) t f = none-ne-some y (sym f ∙ rw (T-is (p y) (rw e at t)))
  find_none p (Memᴰ.tail {x = y} {xs = ys} m) t f = go (p y) f (find_none p m t)
    where
      go : (b : Bool) → cond b (some y) (find p ys) ≡ none → (find p ys ≡ none → ⊥) → ⊥
      go true g below = none-ne-some y (sym g)
      go false g below = below g

  -- ---- each once
  filter_distinct : (p : A → Bool) (xs : List A) → Distinct xs → Distinct (filter p xs)
  filter_distinct p [] h = tt
  filter_distinct p (x ∷ xs) h = go (p x) (filter_distinct p xs h.1)
    where
      go : (b : Bool) → Distinct (filter p xs) → Distinct (cond b (x ∷ filter p xs) (filter p xs))
      go true k = (λ m. h.0 (filter_has p xs m).0, k)
      go false k = k

  module _ (same : A → A → Bool) where
    pub once_has : (xs : List A) {x : A} → x ∈ once same xs → x ∈ xs
    once_has [] m = m
    once_has (y ∷ ys) {x} m = go (Memᴰ.cases_cons m) (once_has ys)
      where
        go : (x ≡ y) ⊎ (x ∈ filter (λ z. not (same y z)) (once same ys)) → (x ∈ once same ys → x ∈ ys) → x ∈ (y ∷ ys)
        go (inl e) below = Memᴰ.head e
        go (inr n) below = Memᴰ.tail (below (filter_has (λ z. not (same y z)) (once same ys) n).0)

    pub has_once : ((x y : A) → T (same x y) → x ≡ y) → {x : A} {xs : List A} → x ∈ xs → x ∈ once same xs
    has_once is (Memᴰ.head e) = Memᴰ.head e
    has_once is {x} (Memᴰ.tail {x = y} {xs = ys} m) = go (same y x) refl (has_once is m)
      where
        go : (b : Bool) → same y x ≡ b → x ∈ once same ys → x ∈ once same (y ∷ ys)
        go true e n = Memᴰ.head (sym (is y x (rw e tt)))
        go false e n = Memᴰ.tail (has_filter (λ z. not (same y z)) n (rw e tt))

    pub once_distinct : ((x : A) → T (same x x)) → (xs : List A) → Distinct (once same xs)
    once_distinct alike [] = tt
    once_distinct alike (x ∷ xs) = (
      λ m. T_not (same x x) (filter_has (λ z. not (same x z)) (once same xs) m).1 (alike x),
      filter_distinct (λ z. not (same x z)) (once same xs) (once_distinct alike xs),
    )

  -- ---- as sets
  pub same_is : {xs ys : List A} → xs ≡ ys → SameSet xs ys
  same_is e a = (λ m. rw e at m, λ m. rw (← e) at m)

  pub same_sym : {xs ys : List A} → SameSet xs ys → SameSet ys xs
  same_sym s a = ((s a).1, (s a).0)

  pub same_trans : {xs ys zs : List A} → SameSet xs ys → SameSet ys zs → SameSet xs zs
  same_trans s t a = (λ m. (t a).0 ((s a).0 m), λ m. (s a).1 ((t a).1 m))

  -- one element against none
  pub one_none : {r : A} {xs ys : List A} → xs ≡ r ∷ [] → ys ≡ [] → ¬ SameSet xs ys
  one_none {r} a b s = Memᴰ.not-nil (rw b at ((s r).0 (rw a (Memᴰ.head refl))))

-- ---- for each
module _ {A B : Type 0} where
  pub flat_map_has : (xs : List A) (f : A → List B) {y : B} → y ∈ flat_map xs f → (x : A) × (x ∈ xs) × (y ∈ f x)
  flat_map_has [] f m = absurd (Memᴰ.not-nil m)
  flat_map_has (x ∷ xs) f {y} m = split (Memᴰ.append_cases (f x) m) (flat_map_has xs f)
    where
      split : (y ∈ f x) ⊎ (y ∈ flat_map xs f) → (y ∈ flat_map xs f → (z : A) × (z ∈ xs) × (y ∈ f z)) → (z : A) × (z ∈ (x ∷ xs)) × (y ∈ f z)
      split (inl h) below = (x, Memᴰ.head refl, h)
      split (inr h) below = let z = below h in (z.0, Memᴰ.tail z.1, z.2)

  pub has_flat_map : (f : A → List B) {x : A} {xs : List A} {y : B} → x ∈ xs → y ∈ f x → y ∈ flat_map xs f
  has_flat_map f (Memᴰ.head {x = z} {xs = zs} e) m = Memᴰ.append_left (flat_map zs f) (rw e at m)
  has_flat_map f (Memᴰ.tail {x = z} {xs = zs} n) m = Memᴰ.append_right (f z) (has_flat_map f n m)

  pub flat_map_nil : (xs : List A) → flat_map {B = B} xs (λ x. []) ≡ []
  flat_map_nil [] = refl
  flat_map_nil (x ∷ xs) = flat_map_nil xs

  pub flat_map_append : (xs ys : List A) (f : A → List B) → flat_map (xs ++ ys) f ≡ flat_map xs f ++ flat_map ys f
  flat_map_append [] ys f = refl
  flat_map_append (x ∷ xs) ys f = rw (flat_map_append xs ys f) (sym (append_assoc (f x) (flat_map xs f) (flat_map ys f)))

-- ---- place by place
module _ {A B : Type 0} (p : A → B → Bool) where
  pub pairwise_length : (xs : List A) (ys : List B) → T (pairwise p xs ys) → length ys ≡ length xs
  pairwise_length [] [] t = refl
  pairwise_length [] (y ∷ ys) t = absurd t
  pairwise_length (x ∷ xs) [] t = absurd t
  pairwise_length (x ∷ xs) (y ∷ ys) t = ap suc (pairwise_length xs ys (and_yes (p x y) (pairwise p xs ys) t).1)

  pub pairwise_append : (xs us : List A) (ys vs : List B) → T (pairwise p xs ys) → T (pairwise p us vs) → T (pairwise p (xs ++ us) (ys ++ vs))
  pairwise_append [] us [] vs t h = h
  pairwise_append [] us (y ∷ ys) vs t h = absurd t
  pairwise_append (x ∷ xs) us [] vs t h = absurd t
  pairwise_append (x ∷ xs) us (y ∷ ys) vs t h =
      let (k, l) = and_yes (p x y) (pairwise p xs ys) t in
      yes_and (p x y) (pairwise p (xs ++ us) (ys ++ vs)) k (pairwise_append xs us ys vs l h)

  pub pairwise_split : (xs us : List A) (ys : List B) → T (pairwise p (xs ++ us) ys)
      → T (pairwise p xs (take (length xs) ys)) × T (pairwise p us (drop (length xs) ys))
  pairwise_split [] us ys t = (tt, t)
  pairwise_split (x ∷ xs) us [] t = absurd t
  pairwise_split (x ∷ xs) us (y ∷ ys) t =
      let (k, l) = and_yes (p x y) (pairwise p (xs ++ us) ys) t in
      let (h, i) = pairwise_split xs us ys l in
      (yes_and (p x y) (pairwise p xs (take (length xs) ys)) k h, i)

module _ {A : Type 0} (p : A → A → Bool) where
  pub pairwise_refl : ((x : A) → T (p x x)) → (xs : List A) → T (pairwise p xs xs)
  pairwise_refl alike [] = tt
  pairwise_refl alike (x ∷ xs) = yes_and (p x x) (pairwise p xs xs) (alike x) (pairwise_refl alike xs)

  pub pairwise_is : ((x y : A) → T (p x y) → x ≡ y) → (xs ys : List A) → T (pairwise p xs ys) → xs ≡ ys
  pairwise_is is [] [] t = refl
  pairwise_is is [] (y ∷ ys) t = absurd t
  pairwise_is is (x ∷ xs) [] t = absurd t
  pairwise_is is (x ∷ xs) (y ∷ ys) t = let (h, k) = and_yes (p x y) (pairwise p xs ys) t in rw (is x y h, pairwise_is is xs ys k)

-- ---- lists that are joined
module _ {A : Type 0} (p : A → Bool) where
  pub any_append : (xs ys : List A) → any_of p (xs ++ ys) ≡ (any_of p xs || any_of p ys)
  any_append [] ys = refl
  any_append (x ∷ xs) ys = rw (any_append xs ys) (sym (or_assoc (p x) (any_of p xs) (any_of p ys)))

  pub all_append : (xs ys : List A) → all_of p (xs ++ ys) ≡ (all_of p xs && all_of p ys)
  all_append [] ys = refl
  all_append (x ∷ xs) ys = rw (all_append xs ys) (sym (and_assoc (p x) (all_of p xs) (all_of p ys)))

  pub any_and : (b : Bool) (xs : List A) → any_of (λ x. p x && b) xs ≡ (any_of p xs && b)
  any_and b [] = refl
  any_and b (x ∷ xs) = rw (any_and b xs) (sym (and-or_distrib_right (p x) (any_of p xs) b))

  pub all_split : (xs ys : List A) → T (all_of p (xs ++ ys)) → T (all_of p xs) × T (all_of p ys)
  all_split xs ys t = and_yes (all_of p xs) (all_of p ys) (rw (all_append xs ys) at t)

  -- one among others
  pub all_among : {all : List A} (xs : List A) (x : A) (ys : List A) → all ≡ xs ++ x ∷ ys → T (all_of p all) → T (p x)
  all_among xs x ys q t = all_has p (Memᴰ.append_right xs (Memᴰ.head refl)) (rw q at t)

  pub all_concat : (xs : List (List A)) → T (all_of p (concat xs)) → T (all_of (all_of p) xs)
  all_concat [] t = tt
  all_concat (x ∷ xs) t =
      let (k, l) = all_split x (concat xs) t in
      yes_and (all_of p x) (all_of (all_of p) xs) k (all_concat xs l)

  pub filter_append : (xs ys : List A) → filter p (xs ++ ys) ≡ filter p xs ++ filter p ys
  filter_append [] ys = refl
  filter_append (x ∷ xs) ys = go (p x) (filter_append xs ys)
    where
      go : (b : Bool) → filter p (xs ++ ys) ≡ filter p xs ++ filter p ys
          → cond b (x ∷ filter p (xs ++ ys)) (filter p (xs ++ ys)) ≡ cond b (x ∷ filter p xs) (filter p xs) ++ filter p ys
      go true e = rw e
      go false e = e

  pub filter_length : (xs : List A) → length (filter p xs) ≤ length xs
  filter_length [] = omega arith
  filter_length (x ∷ xs) = go (p x) (filter_length xs)
    where
      go : (b : Bool) → length (filter p xs) ≤ length xs → length (cond b (x ∷ filter p xs) (filter p xs)) ≤ suc (length xs)
      go true h = omega arith
      go false h = omega arith

pub length_concat : {A : Type 0} (xs ys : List (List A)) → length (concat (xs ++ ys)) ≡ length (concat xs) + length (concat ys)
length_concat [] ys = omega arith
length_concat (x ∷ xs) ys = rw (length-append x (concat (xs ++ ys)), length-append x (concat xs), length_concat xs ys) (omega arith)

-- ---- tests that agree
module _ {A : Type 0} (p q : A → Bool) where
  pub any_cong : (xs : List A) → ((x : A) → x ∈ xs → p x ≡ q x) → any_of p xs ≡ any_of q xs
  any_cong [] h = refl
  any_cong (x ∷ xs) h = rw (h x (Memᴰ.head refl), any_cong xs (λ y m. h y (Memᴰ.tail m)))

  pub all_weaker : ((x : A) → T (p x) → T (q x)) → (xs : List A) → T (all_of p xs) → T (all_of q xs)
  all_weaker f [] t = tt
  all_weaker f (x ∷ xs) t =
      let (k, l) = and_yes (p x) (all_of p xs) t in
      yes_and (q x) (all_of q xs) (f x k) (all_weaker f xs l)

  pub all_both : (xs : List A) → T (all_of p xs) → T (all_of q xs) → T (all_of (λ x. p x && q x) xs)
  all_both [] t u = tt
  all_both (x ∷ xs) t u =
      let (k, l) = and_yes (p x) (all_of p xs) t in
      let (m, n) = and_yes (q x) (all_of q xs) u in
      yes_and (p x && q x) (all_of (λ y. p y && q y) xs) (yes_and (p x) (q x) k m) (all_both xs l n)

-- ---- one element more, at the end
module _ {A : Type 0} where
  pub all_snoc : (p : A → Bool) (xs : List A) (a : A) → T (all_of p xs) → T (p a) → T (all_of p (xs ++ a ∷ []))
  all_snoc p xs a t h = rw (all_append p xs (a ∷ [])) (yes_and (all_of p xs) (p a && true) t (yes_and (p a) true h tt))

  pub none_snoc : (p : A → Bool) (xs : List A) (a : A) → T (not (any_of p xs)) → T (not (p a)) → T (not (any_of p (xs ++ a ∷ [])))
  none_snoc p xs a t h = rw (any_append p xs (a ∷ [])) (neither (any_of p xs) (p a || false) t (neither (p a) false h tt))

  pub some_snoc : (xs : List A) (a : A) → T (not (is_empty (xs ++ a ∷ [])))
  some_snoc [] a = tt
  some_snoc (x ∷ xs) a = tt

pub map_snoc : {A B : Type 0} (f : A → B) (l : List A) (x : A) → map f (l ++ x ∷ []) ≡ map f l ++ f x ∷ []
map_snoc f [] x = refl
map_snoc f (y ∷ l) x = ap (λ (m : List _). f y ∷ m) (map_snoc f l x)

-- ---- images
module _ {A B : Type 0} where
  pub flat_map_map : {C : Type 0} (f : A → B) (g : B → List C) (xs : List A) → flat_map (map f xs) g ≡ flat_map xs (λ x. g (f x))
  flat_map_map f g [] = refl
  flat_map_map f g (x ∷ xs) = ap (λ (r : List _). g (f x) ++ r) (flat_map_map f g xs)

  pub map_cong : (f g : A → B) (xs : List A) → ((x : A) → x ∈ xs → f x ≡ g x) → map f xs ≡ map g xs
  map_cong f g [] h = refl
  map_cong f g (x ∷ xs) h = rw (h x (Memᴰ.head refl), map_cong f g xs (λ y m. h y (Memᴰ.tail m)))

  pub map_back : (f : A → B) (g : B → A) → ((x : A) → g (f x) ≡ x) → (l : List A) → map g (map f l) ≡ l
  map_back f g e [] = refl
  map_back f g e (x ∷ l) = rw (e x, map_back f g e l)

  pub map_replicate : (f : A → B) (n : ℕ) (x : A) → map f (replicate n x) ≡ replicate n (f x)
  map_replicate f zero x = refl
  map_replicate f (suc n) x = rw (map_replicate f n x)

-- ---- the last of some lists
module _ {A : Type 0} where
  pub last_append : (xs : List (List A)) (x : List A) → last_of (xs ++ x ∷ []) ≡ x
  last_append [] x = refl
  last_append (y ∷ []) x = refl
  last_append (y ∷ z ∷ zs) x = last_append (z ∷ zs) x

  pub in_last_lem : (xs : List (List A)) (x : List A) (a : A) → in_last (xs ++ x ∷ []) a ≡ xs ++ (x ++ a ∷ []) ∷ []
  in_last_lem [] x a = refl
  in_last_lem (y ∷ []) x a = refl
  in_last_lem (y ∷ z ∷ zs) x a = rw (in_last_lem (z ∷ zs) x a)

  -- with one more element in it
  pub all_last : (p : List A → Bool) (xs : List (List A)) (a : A) → T (all_of p xs) → (T (p (last_of xs)) → T (p (last_of xs ++ a ∷ [])))
      → T (all_of p (in_last xs a))
  all_last p [] a t f = tt
  all_last p (x ∷ []) a t f = yes_and (p (x ++ a ∷ [])) true (f (and_yes (p x) true t).0) tt
  all_last p (x ∷ y ∷ ys) a t f =
      let (k, l) = and_yes (p x) (all_of p (y ∷ ys)) t in
      yes_and (p x) (all_of p (in_last (y ∷ ys) a)) k (all_last p (y ∷ ys) a l f)

  pub length_last : (xs : List (List A)) (a : A) → length (in_last xs a) ≡ length xs
  length_last [] a = refl
  length_last (x ∷ []) a = refl
  length_last (x ∷ y ∷ ys) a = ap suc (length_last (y ∷ ys) a)

  pub some_last : (xs : List (List A)) (a : A) → T (not (is_empty xs)) → T (not (is_empty (in_last xs a)))
  some_last [] a t = t
  some_last (x ∷ []) a t = tt
  some_last (x ∷ y ∷ ys) a t = tt

  -- where a list has just been begun, all are filled after one more
  pub last_filled : (xs : List (List A)) (a : A) → T (all_of (λ x. not (is_empty x)) xs)
      → T (all_of (λ x. not (is_empty x)) (in_last (xs ++ [] ∷ []) a))
  last_filled xs a t = rw (in_last_lem xs [] a) (all_snoc (λ z. not (is_empty z)) xs (a ∷ []) t tt)

  pub concat_more : (xs : List (List A)) → concat (xs ++ [] ∷ []) ≡ concat xs
  concat_more [] = refl
  concat_more (x ∷ xs) = rw (concat_more xs)

  pub concat_last : (xs : List (List A)) (a : A) → T (not (is_empty xs)) → concat (in_last xs a) ≡ concat xs ++ a ∷ []
  concat_last [] a t = absurd t
  concat_last (x ∷ []) a t = simp (append-nil)
  concat_last (x ∷ y ∷ ys) a t = rw (concat_last (y ∷ ys) a tt) (sym (append_assoc x (concat (y ∷ ys)) (a ∷ [])))
