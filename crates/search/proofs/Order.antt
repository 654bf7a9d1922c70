-- The order of clauses: it has each of the four once, whatever they weigh. Assumes nothing.
use mathlib.Core.Path.{◌≡◌, refl, ap, sym, ◌∙◌}
use mathlib.Core.Bool.{Bool, true, false, cond, and_assoc, and_comm, ◌&&◌}
use mathlib.Core.List.{List, [], ◌∷◌, map}
use Prim.Native.Nat.{ℕ, zero, suc, ◌<◌}
use native.Mathlib.Omega.{arith}
use lib.ListN.{length, get_or, set}
use lib.Dec.{T, ltb, ltb→lt, lt→ltb}
use mir.Facts.{yes_and}
use Rattle.std.specs.List.{swap}
use Rattle.std.proofs.lemmas.List.{get_or_default}
use Rattle.base.specs.Lists.{all_of, any_of, at, range}
use Rattle.base.proofs.Places.{all_at, tabulated}
use Rattle.model.specs.Tables.{Row}
use Rattle.zone.specs.declared.Constraint.{Constraint}
use Rattle.conditions.proofs.Stands.{obeys}
use Rattle.breaking.specs.Places.{in_order}
use Rattle.breaking.proofs.Breaking.{breaks}
use Rattle.search.specs.Order.{exchanged, order_by}
use Rattle.search.specs.Uses.{Order}

module _ (ws : List ℕ) where
  -- ---- one exchange
  exchanged_length : (i : ℕ) (o : List ℕ) → length (exchanged ws i o) ≡ length o
  exchanged_length i [] = refl
  exchanged_length i (a ∷ []) = refl
  exchanged_length zero (a ∷ b ∷ o) = go (ltb (at ws b) (at ws a))
    where
      go : (t : Bool) → length (cond t (b ∷ a ∷ o) (a ∷ b ∷ o)) ≡ suc (suc (length o))
      go true = refl
      go false = refl
  exchanged_length (suc i) (a ∷ b ∷ o) = ap suc (exchanged_length i (b ∷ o))

  exchanged_all : (p : ℕ → Bool) (i : ℕ) (o : List ℕ) → all_of p (exchanged ws i o) ≡ all_of p o
  exchanged_all p i [] = refl
  exchanged_all p i (a ∷ []) = refl
  exchanged_all p zero (a ∷ b ∷ o) = go (ltb (at ws b) (at ws a))
    where
      go : (t : Bool) → all_of p (cond t (b ∷ a ∷ o) (a ∷ b ∷ o)) ≡ (p a && (p b && all_of p o))
      go true = sym (and_assoc (p b) (p a) (all_of p o)) ∙ ap (λ t. t && all_of p o) (and_comm (p b) (p a)) ∙ and_assoc (p a) (p b) (all_of p o)
      go false = refl
  exchanged_all p (suc i) (a ∷ b ∷ o) = rw (exchanged_all p i (b ∷ o))

  -- as the code makes it
  pub exchanged_swaps : (i : ℕ) (o : List ℕ) → suc i < length o → ltb (at ws (at o (suc i))) (at ws (at o i)) ≡ true
      → swap o i (suc i) ≡ exchanged ws i o
  exchanged_swaps i [] h e = absurd (omega arith)
  exchanged_swaps i (a ∷ []) h e = absurd (omega arith)
  exchanged_swaps i (a ∷ b ∷ o) h e =
      rw (get_or_default (a ∷ b ∷ o) (suc i) a 0 h, get_or_default (a ∷ b ∷ o) i a 0 (omega arith)) (placed i (a ∷ b ∷ o) h e)
    where
      placed : (i : ℕ) (o : List ℕ) → suc i < length o → ltb (at ws (at o (suc i))) (at ws (at o i)) ≡ true
          → set (set o i (at o (suc i))) (suc i) (at o i) ≡ exchanged ws i o
      placed i [] h e = absurd (omega arith)
      placed i (a ∷ []) h e = absurd (omega arith)
      placed zero (a ∷ b ∷ o) h e = rw e
      placed (suc i) (a ∷ b ∷ o) h e = ap (λ (l : List ℕ). a ∷ l) (placed i (b ∷ o) (omega arith) e)

  pub exchanged_stays : (i : ℕ) (o : List ℕ) → suc i < length o → ltb (at ws (at o (suc i))) (at ws (at o i)) ≡ false → o ≡ exchanged ws i o
  exchanged_stays i [] h e = absurd (omega arith)
  exchanged_stays i (a ∷ []) h e = absurd (omega arith)
  exchanged_stays zero (a ∷ b ∷ o) h e = rw e
  exchanged_stays (suc i) (a ∷ b ∷ o) h e = ap (λ (l : List ℕ). a ∷ l) (exchanged_stays i (b ∷ o) (omega arith) e)

  -- the numbers stay below four
  below_all : (o : List ℕ) (n : ℕ) → length o ≡ n → ((q : ℕ) → q < n → at o q < 4) → T (all_of (λ q. ltb q 4) o)
  below_all [] n e h = tt
  below_all (a ∷ o) zero e h = absurd (omega arith)
  below_all (a ∷ o) (suc n) e h =
      yes_and (ltb a 4) (all_of (λ q. ltb q 4) o) (lt→ltb a 4 (h 0 (omega arith))) (below_all o n (omega arith) (λ q l. h (suc q) (omega arith)))

  exchanged_order : (i : ℕ) (o : List ℕ) → length o ≡ 4 → Order o → Order (exchanged ws i o)
  exchanged_order i o four h q l =
      ltb→lt (at (exchanged ws i o) q) 4
      (all_at (λ q. ltb q 4) (exchanged ws i o) q 0 (rw (exchanged_all (λ q. ltb q 4) i o) (below_all o 4 four h)) (omega (arith, exchanged_length i o)))

  -- ---- all of them
  abbrev after1 : List ℕ
  after1 = exchanged ws 0 (range 4)

  abbrev after2 : List ℕ
  after2 = exchanged ws 1 after1

  abbrev after3 : List ℕ
  after3 = exchanged ws 2 after2

  abbrev after4 : List ℕ
  after4 = exchanged ws 0 after3

  abbrev after5 : List ℕ
  after5 = exchanged ws 1 after4

  pub order_length : length (order_by ws) ≡ 4
  unfolding order_by
  order_length =
      exchanged_length 0 after5 ∙ exchanged_length 1 after4 ∙ exchanged_length 0 after3 ∙ exchanged_length 2 after2 ∙ exchanged_length 1 after1
      ∙ exchanged_length 0 (range 4)

  pub order_all : (p : ℕ → Bool) → all_of p (order_by ws) ≡ all_of p (range 4)
  unfolding order_by
  order_all p =
      exchanged_all p 0 after5 ∙ exchanged_all p 1 after4 ∙ exchanged_all p 0 after3 ∙ exchanged_all p 2 after2 ∙ exchanged_all p 1 after1
      ∙ exchanged_all p 0 (range 4)

  pub order_below : Order (order_by ws)
  order_below q h =
      ltb→lt (at (order_by ws) q) 4 (all_at (λ q. ltb q 4) (order_by ws) q 0 (rw (order_all (λ q. ltb q 4)) tt) (omega (arith, order_length)))

  -- so a row breaks the clauses in this order where it breaks them
  pub order_breaks : (r : Row) (k : List (List Constraint)) → length k ≡ 4 → breaks r (in_order (order_by ws) k) ≡ breaks r k
  unfolding in_order
  order_breaks r k four =
      map_all (any_of (obeys r)) (order_by ws) ∙ order_all (λ q. any_of (obeys r) (get_or k q [])) ∙ sym (map_all (any_of (obeys r)) (range 4)) ∙ ap (breaks r) (sym back)
    where
      map_all : (p : List Constraint → Bool) (o : List ℕ) → all_of p (map (λ q. get_or k q []) o) ≡ all_of (λ q. p (get_or k q [])) o
      map_all p [] = refl
      map_all p (q ∷ o) = rw (map_all p o)

      back : k ≡ map (λ q. get_or k q []) (range 4)
      back = tabulated k (λ q. get_or k q []) 4 [] four (λ i h. refl)

-- ---- four numbers below four, as the code makes them
pub record Four (o : List ℕ) : Type 0 where
  pub four : length o ≡ 4
  pub below : Order o

pub declared_four : Four (range 4)
declared_four = record { four = refl; below = below }
  where
    below : Order (range 4)
    below zero h = omega arith
    below (suc zero) h = omega arith
    below (suc (suc zero)) h = omega arith
    below (suc (suc (suc zero))) h = omega arith
    below (suc (suc (suc (suc q)))) h = absurd (omega arith)

pub exchanged_four : (ws : List ℕ) (i : ℕ) {o a : List ℕ} → Four o → a ≡ exchanged ws i o → Four a
exchanged_four ws i {o} f is =
    rw is (record { four = exchanged_length ws i o ∙ f.four; below = exchanged_order ws i o f.four f.below })
