-- Bytes, and bytes that are put one behind the other: two parts, and a part for each of some elements. Assumes nothing.
use mathlib.Core.Path.{◌≡◌, refl, sym, ap, ◌∙◌}
use mathlib.Core.List.{List, [], ◌∷◌, ◌++◌}
use Prim.Native.Nat.{ℕ, zero, suc, ◌+◌, ◌≤◌, ◌<◌}
use native.Mathlib.Nat.{add-zero}
use native.Mathlib.Omega.{arith}
use lib.ListN.{length, get_or, take, drop, set, length-append, drop_of_length-le}
use lib.Seq.{sets, length-sets, sets-eq, get_or-drop}
use Rattle.std.proofs.lemmas.List.{drop_more}
use Rattle.base.specs.Lists.{flat_map}
use Rattle.base.specs.Bytes.{Bytes, Room, Puts}
use Rattle.base.specs.declared.Output.{Output}

-- ---- each element is a byte
pub bytes_none : Bytes []
bytes_none i = omega arith

pub bytes_more : (b : ℕ) (s : List ℕ) → b < 256 → Bytes s → Bytes (b ∷ s)
bytes_more b s h k zero = h
bytes_more b s h k (suc i) = k i

pub bytes_append : (s t : List ℕ) → Bytes s → Bytes t → Bytes (s ++ t)
bytes_append [] t h k = k
bytes_append (b ∷ s) t h k = bytes_more b (s ++ t) (h 0) (bytes_append s t (λ i. h (suc i)) k)

pub bytes_take : (n : ℕ) (s : List ℕ) → Bytes s → Bytes (take n s)
bytes_take zero s h i = omega arith
bytes_take (suc n) [] h i = omega arith
bytes_take (suc n) (b ∷ s) h zero = h 0
bytes_take (suc n) (b ∷ s) h (suc i) = bytes_take n s (λ j. h (suc j)) i

pub bytes_drop : (n : ℕ) (s : List ℕ) → Bytes s → Bytes (drop n s)
bytes_drop n s h i = rw get_or-drop (h (n + i))

-- ---- two parts
sets_append : (l : List ℕ) (i : ℕ) (u v : List ℕ) → sets (sets l i u) (i + length u) v ≡ sets l i (u ++ v)
sets_append l i [] v = rw add-zero
sets_append l i (a ∷ u) v = let e : i + suc (length u) ≡ suc i + length u = omega arith in rw e (sets_append (set l i a) (suc i) u v)

pub puts_length : {old new : Output} {u : List ℕ} → Puts old new u → length new.bytes.now ≡ length old.bytes.now
puts_length {old} {u = u} x = ap length x.list ∙ length-sets old.bytes.now old.at u

pub nothing : (out : Output) → out.at ≤ length out.bytes.now → Puts out out []
nothing out h = record { same = refl; next = sym (add-zero out.at); within = h; list = refl }

pub puts_is : {old new out : Output} {u v : List ℕ} → out ≡ new → u ≡ v → Puts old new u → Puts old out v
puts_is d e x = rw (d, ← e) x

pub and_then_lem : {a b c : Output} {u v : List ℕ} → Puts a b u → Puts b c v → Puts a c (u ++ v)
and_then_lem {a} {b} {c} {u} {v} x y = record {
  same = y.same ∙ x.same;
  next = omega (arith, x.next, y.next, length-append u v);
  within = y.within;
  list = y.list ∙ rw (x.list, x.next) (sets_append a.bytes.now a.at u v);
}

pub room_first : {out : Output} (u v : List ℕ) → Room out (u ++ v) → Room out u
room_first u v x = record { room = omega (arith, x.room, length-append u v) }

pub room_next : {old new : Output} (u v : List ℕ) → Room old (u ++ v) → Puts old new u → Room new v
room_next u v x y = record { room = omega (arith, x.room, y.next, puts_length y, length-append u v) }

-- from the first place on, into bytes that are lent until then
pub put_first : {old new : Output} {lent : List ℕ} (u : List ℕ) → old.at ≡ 0
    → (old.bytes.ghost_name ≡ new.bytes.ghost_name → lent ≡ new.bytes.now) → Puts old new u
    → (new.at ≡ length u) × (lent ≡ u ++ drop (length u) old.bytes.now)
put_first {old} u none back x =
    let from : 0 + length u ≡ length u = omega arith in
    let fits : 0 + length u ≤ length old.bytes.now = omega (arith, x.next, x.within, puts_length x) in
    (omega (arith, x.next), back (sym x.same) ∙ (rw none at x.list) ∙ sets-eq u old.bytes.now 0 fits ∙ rw from)

-- ---- a part for each element of l: those of `left` are still to be put, and there is room for them
pub record Left {A : Type 0} (f : A → List ℕ) (l left : List A) (old new : Output) : Type 0 where
  pub room : Room new (flat_map left f)
  pub done : {newer : Output} → Puts new newer (flat_map left f) → Puts old newer (flat_map l f)

module _ {A : Type 0} {f : A → List ℕ} {l : List A} where
  pub left_all : {out : Output} → Room out (flat_map l f) → Left f l l out out
  left_all r = record { room = r; done = λ x. x }

  module _ {left more : List A} {x : A} {old new : Output} (is : left ≡ x ∷ more) (s : Left f l left old new) where
    pub left_room : Room new (f x)
    left_room = room_first (f x) (flat_map more f) (rw is at s.room)

    pub left_next : {newer : Output} → Puts new newer (f x) → Left f l more old newer
    left_next y = record {
      room = room_next (f x) (flat_map more f) (rw is at s.room) y;
      done = λ z. s.done (rw is (and_then_lem y z));
    }

  pub left_none : {left : List A} {old new : Output} → left ≡ [] → Left f l left old new → Puts old new (flat_map l f)
  left_none {new = new} is s =
      let r : Room new (flat_map [] f) = rw is at s.room in
      s.done (rw is (nothing new (omega (arith, r.room))))

-- ---- the same in a loop over a slice s of these elements, in its turn i
module _ {A : Type 0} {f : A → List ℕ} {l s : List A} {i : ℕ} {old new : Output} (is : s ≡ l) (so_far : Left f l (drop i l) old new) where
  module _ (d : A) (more : i < length s) where
    one_left : drop i l ≡ get_or s i d ∷ drop (i + 1) l
    one_left = rw is (drop_more l i d (rw is at more))

    pub turn_room : Room new (f (get_or s i d))
    turn_room = left_room one_left so_far

    pub turn_next : {newer : Output} → Puts new newer (f (get_or s i d)) → Left f l (drop (i + 1) l) old newer
    turn_next y = left_next one_left so_far y

  pub turn_none : length s ≤ i → Puts old new (flat_map l f)
  turn_none done = left_none (drop_of_length-le l (rw is at done)) so_far
