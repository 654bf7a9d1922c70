-- Laws of the combinations of a database's rows. Assumes nothing.
use mathlib.Core.Path.{◌≡◌, refl, sym, ap, ◌∙◌}
use mathlib.Core.Bool.{Bool, true, false, cond, not}
use mathlib.Core.List.Memᴰ
use mathlib.Core.List.{List, [], ◌∷◌, ◌++◌, map}
use Prim.Native.Nat.{ℕ, zero, suc, ◌+◌, ◌-◌, ◌<◌, ◌≤◌, zero-le, suc-le-suc}
use native.Mathlib.Nat.{not-suc-le-zero, le_of_suc-le-suc}
use native.Mathlib.Omega.{arith}
use lib.ListN.{length, get_or, take, drop, length-append, length-map, length-drop, get_or-append}
use lib.Seq.{take_at, drop_at, get_or-take, get_or-drop, get_or-append-add, length-take-le}
use lib.IntN.{pos}
use lib.Signed.{le_z}
use mir.Facts.{and_yes, yes_and}
use lib.Dec.{T, ltb, ltb→lt, nltb→le}
use Rattle.base.specs.Lists.{◌∈◌, all_of, concat, is_empty, flat_map}
use Rattle.base.proofs.Lists.{pairwise_length, pairwise_append, pairwise_split, flat_map_has, has_flat_map, flat_map_nil}
use Rattle.base.proofs.Tests.{T-is}
use Rattle.words.proofs.Order.{le_z_refl}
use Rattle.model.specs.Tables.{Table, Row, TableRow, value, table_of, part_of, inside, within, Database, WithinBounds, combinations, columns_of, after}
use Rattle.model.specs.WellFormed.{table_formed}

abbrev pub lows : Table → TableRow
lows b = map (λ c. c.lo) b

pub lows_within : (bs : Table) → T (all_of (λ b. le_z b.lo b.hi) bs) → T (within bs (lows bs))
lows_within [] p = tt
lows_within (b ∷ bs) p =
    let (h, k) = and_yes (le_z b.lo b.hi) (all_of (λ b. le_z b.lo b.hi) bs) p in
    yes_and (inside b b.lo) (within bs (lows bs)) (yes_and (le_z b.lo b.lo) (le_z b.lo b.hi) (le_z_refl b.lo) h) (lows_within bs k)

-- a combination is a row of the first table, or its lows where it isn't used, and a combination of the others
module _ (u : ℕ → Bool) (b : Table) (bs : List Table) (d : Database) where
  abbrev fronts : List TableRow
  fronts = cond (u zero) (d zero) (lows b ∷ [])

  abbrev rests : List Row
  rests = combinations (after u) bs (after d)

  split : {r : Row} → r ∈ combinations u (b ∷ bs) d → (x : Row) × (s : Row) × (x ∈ fronts) × (s ∈ rests) × (x ++ s ≡ r)
  split m =
      let (x, n, k) = flat_map_has fronts (λ x. map (λ s. x ++ s) rests) m in
      let (s, l, e) = Memᴰ.of_map (λ s. x ++ s) rests k in
      (x, s, n, l, e)

front_within : (b : Table) (d : Database) (c : Bool) → T (table_formed b) → ((r : TableRow) → r ∈ d zero → T (within b r)) → {x : TableRow}
    → x ∈ cond c (d zero) (lows b ∷ []) → T (within b x)
front_within b d true p w {x} m = w x m
front_within b d false p w m = rw (Memᴰ.eq_of_singleton m) (lows_within b (and_yes (not (is_empty b)) (all_of (λ c. le_z c.lo c.hi) b) p).1)

-- combinations of a database are rows within bounds
pub combinations_within : (u : ℕ → Bool) (ts : List Table) (d : Database) → T (all_of table_formed ts) → WithinBounds ts d → {r : Row}
    → r ∈ combinations u ts d → T (within (columns_of ts) r)
combinations_within u [] d f w m = rw (Memᴰ.eq_of_singleton m) tt
combinations_within u (b ∷ bs) d f w m =
    let (x, s, n, l, e) = split u b bs d m in
    let (p, g) = and_yes (table_formed b) (all_of table_formed bs) f in
    let front = front_within b d (u zero) p (w zero (suc-le-suc zero-le)) n in
    let rest = combinations_within (after u) bs (after d) g (λ t lt. w (suc t) (suc-le-suc lt)) l in
    rw (← e) (pairwise_append inside b (concat bs) x s front rest)

-- they depend on which tables are used, and on the rows in these
pub combinations_cong : (u v : ℕ → Bool) (ts : List Table) (d f : Database) → ((t : ℕ) → t < length ts → u t ≡ v t)
    → ((t : ℕ) → t < length ts → T (u t) → d t ≡ f t) → combinations u ts d ≡ combinations v ts f
combinations_cong u v [] d f h k = refl
combinations_cong u v (b ∷ bs) d f h k =
    rw (
      combinations_cong (after u) (after v) bs (after d) (after f) (λ t lt. h (suc t) (suc-le-suc lt)) (λ t lt. k (suc t) (suc-le-suc lt)),
      ← (h zero (suc-le-suc zero-le)),
      front (u zero) (k zero (suc-le-suc zero-le)),
    )
  where
    front : (c : Bool) → (T c → d zero ≡ f zero) → cond c (d zero) (lows b ∷ []) ≡ cond c (f zero) (lows b ∷ [])
    front true e = e tt
    front false e = refl

-- more rows in the used tables, more combinations
pub combinations_more : (u : ℕ → Bool) (ts : List Table) (d f : Database)
    → ((t : ℕ) → t < length ts → T (u t) → (x : TableRow) → x ∈ d t → x ∈ f t) → {r : Row} → r ∈ combinations u ts d
    → r ∈ combinations u ts f
combinations_more u [] d f h m = m
combinations_more u (b ∷ bs) d f h m =
    let (x, s, n, l, e) = split u b bs d m in
    has_flat_map (λ x. map (λ s. x ++ s) (rests u b bs f)) (front (u zero) (h zero (suc-le-suc zero-le)) n)
    (Memᴰ.cast (sym e) (Memᴰ.map (λ s. x ++ s) (combinations_more (after u) bs (after d) (after f) (λ t lt. h (suc t) (suc-le-suc lt)) l)))
  where
    front : (c : Bool) → (T c → (x : TableRow) → x ∈ d zero → x ∈ f zero) → {x : TableRow} → x ∈ cond c (d zero) (lows b ∷ [])
        → x ∈ cond c (f zero) (lows b ∷ [])
    front true g {x} k = g tt x k
    front false g k = k

-- none where a used table has no row
pub combinations_none : (u : ℕ → Bool) (ts : List Table) (d : Database) (t : ℕ) → t < length ts → T (u t) → d t ≡ [] → combinations u ts d ≡ []
combinations_none u [] d t lt h e = absurd (not-suc-le-zero lt)
combinations_none u (b ∷ bs) d zero lt h e = rw (T-is (u zero) h, e)
combinations_none u (b ∷ bs) d (suc t) lt h e =
    rw (combinations_none (after u) bs (after d) t (le_of_suc-le-suc lt) h e) (flat_map_nil (fronts u b bs d))

-- ---- a database of one row

-- that row in the columns of used tables, lo in the others
abbrev pub blend : (ℕ → Bool) → List Table → Row → Row
blend u [] r = []
blend u (b ∷ bs) r = cond (u zero) (take (length b) r) (lows b) ++ blend (after u) bs (drop (length b) r)

-- is the one combination, where each used table holds the row's part
pub combinations_one : (u : ℕ → Bool) (ts : List Table) (r : Row) (d : Database)
    → ((t : ℕ) → t < length ts → T (u t) → d t ≡ part_of ts r t ∷ []) → combinations u ts d ≡ blend u ts r ∷ []
combinations_one u [] r d h = refl
combinations_one u (b ∷ bs) r d h =
    rw (combinations_one (after u) bs (drop (length b) r) (after d) (λ t lt. h (suc t) (suc-le-suc lt))) (front (u zero) (h zero (suc-le-suc zero-le)))
  where
    rest : Row
    rest = blend (after u) bs (drop (length b) r)

    front : (c : Bool) → (T c → d zero ≡ take (length b) r ∷ [])
        → flat_map (cond c (d zero) (lows b ∷ [])) (λ x. (x ++ rest) ∷ []) ≡ (cond c (take (length b) r) (lows b) ++ rest) ∷ []
    front true e = rw (e tt)
    front false e = refl

-- reading past the front
past : (x y r : Row) (n c : ℕ) → length x ≡ n → n ≤ c → value y (c - n) ≡ value (drop n r) (c - n) → value (x ++ y) c ≡ value r c
past x y r n c e le h =
    let k : length x + (c - n) ≡ c = omega arith in
    let l : n + (c - n) ≡ c = omega arith in
    ap (λ (i : ℕ). value (x ++ y) i) (sym k) ∙ get_or-append-add x y (c - n) (pos 0) ∙ h ∙ get_or-drop n r (c - n) (pos 0) ∙ ap (λ (i : ℕ). value r i) l

-- it has the row's value in every column of a used table
pub blend_value : (u : ℕ → Bool) (ts : List Table) (r : Row) (c : ℕ) → length r ≡ length (columns_of ts) → c < length (columns_of ts)
    → T (u (table_of ts c)) → value (blend u ts r) c ≡ value r c
blend_value u [] r c w lt h = absurd (not-suc-le-zero lt)
blend_value u (b ∷ bs) r c w lt h = go (ltb c (length b)) refl (blend_value (after u) bs (drop (length b) r) (c - length b) shorter)
  where
    long : length b ≤ length r
    long = omega (arith, length-append b (concat bs))

    shorter : length (drop (length b) r) ≡ length (concat bs)
    shorter = rw (length-drop (length b) r) (omega (arith, length-append b (concat bs)))

    width : (a : Bool) → length (cond a (take (length b) r) (lows b)) ≡ length b
    width true = length-take-le (length b) r long
    width false = length-map b (λ x. x.lo)

    rest : Row
    rest = blend (after u) bs (drop (length b) r)

    go : (a : Bool) → ltb c (length b) ≡ a
        → (c - length b < length (concat bs) → T (u (suc (table_of bs (c - length b)))) → value rest (c - length b) ≡ value (drop (length b) r) (c - length b))
        → value (cond (u zero) (take (length b) r) (lows b) ++ rest) c ≡ value r c
    go true e below =
        let k : c < length b = ltb→lt c (length b) (rw e tt) in
        let f : T (u zero) = rw e at h in
        rw (T-is (u zero) f) (get_or-append (take (length b) r) _ (pos 0) c (omega (arith, width true)) ∙ get_or-take (length b) r c (pos 0) k)
    go false e below =
        let k : length b ≤ c = nltb→le c (length b) (rw e tt) in
        past (cond (u zero) (take (length b) r) (lows b)) rest r (length b) c (width (u zero)) k (below (omega (arith, length-append b (concat bs))) (rw e at h))

-- a row's parts are within their tables' bounds
pub part_within : (ts : List Table) (r : Row) → T (within (columns_of ts) r) → (t : ℕ) → t < length ts → T (within (get_or ts t []) (part_of ts r t))
part_within [] r w t lt = absurd (not-suc-le-zero lt)
part_within (b ∷ bs) r w zero lt = (pairwise_split inside b (concat bs) r w).0
part_within (b ∷ bs) r w (suc t) lt = part_within bs (drop (length b) r) (pairwise_split inside b (concat bs) r w).1 t (le_of_suc-le-suc lt)

-- ---- what combinations are, with no word of the columns of other tables

-- a row's part in each used table is a row of that table
abbrev pub Combines : (ℕ → Bool) → List Table → Database → Row → Type 0
Combines u ts d r = (t : ℕ) → t < length ts → T (u t) → part_of ts r t ∈ d t

pub combinations_combine : (u : ℕ → Bool) (ts : List Table) (d : Database) → T (all_of table_formed ts) → WithinBounds ts d → {r : Row}
    → r ∈ combinations u ts d → Combines u ts d r
combinations_combine u [] d f w m t lt h = absurd (not-suc-le-zero lt)
combinations_combine u (b ∷ bs) d f w m t lt h =
    let (x, s, n, l, e) = split u b bs d m in
    let (p, g) = and_yes (table_formed b) (all_of table_formed bs) f in
    let front = front_within b d (u zero) p (w zero (suc-le-suc zero-le)) n in
    let rest = combinations_combine (after u) bs (after d) g (λ t lt. w (suc t) (suc-le-suc lt)) l in
    go x s n e (pairwise_length inside b x front) rest t lt h
  where
    go : {r : Row} (x s : Row) → x ∈ fronts u b bs d → x ++ s ≡ r → length x ≡ length b → Combines (after u) bs (after d) s → Combines u (b ∷ bs) d r
    go x s n e len below zero lt h = rw (← e, take_at x s (length b) len) (rw (T-is (u zero) h) at n)
    go x s n e len below (suc t) lt h = rw (← e, drop_at x s (length b) len) (below t (le_of_suc-le-suc lt) h)

pub combine_combinations : (u : ℕ → Bool) (ts : List Table) (d : Database) (r : Row) → Combines u ts d r → blend u ts r ∈ combinations u ts d
combine_combinations u [] d r h = Memᴰ.head refl
combine_combinations u (b ∷ bs) d r h =
    let rest = combine_combinations (after u) bs (after d) (drop (length b) r) (λ t lt. h (suc t) (suc-le-suc lt)) in
    has_flat_map (λ x. map (λ s. x ++ s) (rests u b bs d)) (front (u zero) (h zero (suc-le-suc zero-le)))
    (Memᴰ.map (λ s. cond (u zero) (take (length b) r) (lows b) ++ s) rest)
  where
    front : (c : Bool) → (T c → take (length b) r ∈ d zero) → cond c (take (length b) r) (lows b) ∈ cond c (d zero) (lows b ∷ [])
    front true g = g tt
    front false g = Memᴰ.head refl
