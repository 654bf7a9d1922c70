-- Two rows that agree in the stored columns are one row within the bounds of both. Assumes nothing.
use mathlib.Core.Path.{◌≡◌, ap, sym, subst⁻¹, ◌∙◌}
use mathlib.Core.Logic.{◌⊎◌, inl, inr}
use mathlib.Core.Bool.{Bool, true, false, not, ◌&&◌}
use mathlib.Core.List.Memᴰ
use mathlib.Core.List.{List, [], ◌∷◌, ◌++◌, map}
use Prim.Native.Nat.{ℕ, zero, suc, ◌+◌, ◌*◌, ◌<◌, ◌≤◌}
use native.Mathlib.Omega.{arith}
use lib.ListN.{length, get_or, length-append, length-take, length-map, get_or-append, get_or-eq_default}
use lib.Seq.{get_or-append_seam, get_or-take, take_at, ext_get_or}
use lib.IntN.{pos}
use lib.Dec.{T, eqb, eqb→eq, eqb_refl}
use mir.Facts.{and_yes, yes_and}
use Rattle.base.proofs.Places.{element, behind_at, map_at, pairwise_at, at_pairwise, pairwise_maps, maps_pairwise, range_has, tabulate_at, tabulate_length, filter_range}
use Rattle.base.specs.Lists.{◌∈◌, all_of, filter, range}
use Rattle.base.proofs.Lists.{any_has, has_any, all_has, has_all, filter_has, pairwise_length, pairwise_append, pairwise_split, filter_length, map_cong}
use Rattle.base.proofs.Tests.{same_test, T-is, not_is, by_less}
use Rattle.words.specs.Compare.{eq_z}
use Rattle.words.proofs.Order.{eq_z_is}
use Rattle.model.specs.Tables.{Row, value, inside, within}
use Rattle.model.specs.declared.Bounds.{Bounds}
use Rattle.model.specs.Rows.{some_row, two_rows, same_row}
use Rattle.model.proofs.Rows.{some_has, has_some, two_has, has_two, is_same_row}
use Rattle.twins.specs.Twins.{is_stored, hidden, rank, twin_of, twin_bounds}
use Rattle.twins.proofs.Rows.{first_row, second_row}

-- the bounds of a column that isn't declared
abbrev undeclared : Bounds
undeclared = record { lo = pos 0; hi = pos 0 }

-- ---- places in two lists, one behind the other
abbrev Stands : List ℕ → ℕ → ℕ → Type 0
Stands xs i c = (i < length xs) × (get_or xs i zero ≡ c)

stands_before : (xs ys : List ℕ) {i c : ℕ} → Stands xs i c → Stands (xs ++ ys) i c
stands_before xs ys {i} (l, e) = (omega (arith, length-append xs ys), get_or-append xs ys zero i l ∙ e)

stands_last : (xs : List ℕ) (c : ℕ) → Stands (xs ++ c ∷ []) (length xs) c
stands_last xs c = (omega (arith, length-append xs (c ∷ [])), get_or-append_seam xs c [] zero)

module _ (n : ℕ) (stored : List ℕ) where
  -- ---- the hidden columns
  abbrev is_hidden : ℕ → Bool
  is_hidden c = not (is_stored n stored c)

  -- a hidden column has its rank for its place among the hidden
  ranked : (m c : ℕ) → c < m → T (is_hidden c) → Stands (filter is_hidden (range m)) (rank n stored c) c
  unfolding rank
  ranked zero c h t = absurd (omega arith)
  ranked (suc m) c h t =
      subst⁻¹ (λ (l : List ℕ). Stands l (rank n stored c) c) (filter_range is_hidden m)
      (by_less c m (λ l. stands_before front (filter is_hidden (m ∷ [])) (ranked m c l t)) last)
    where
      front : List ℕ
      front = filter is_hidden (range m)

      last : m ≤ c → Stands (front ++ filter is_hidden (m ∷ [])) (rank n stored c) c
      last l = let e : m ≡ c = omega arith in rw (e, T-is (is_hidden c) t) (stands_last (filter is_hidden (range c)) c)

  hidden_rank : (c : ℕ) → c < n → T (is_hidden c) → Stands (hidden n stored) (rank n stored c) c
  unfolding hidden
  hidden_rank = ranked n

  hidden_below : {c : ℕ} → c ∈ hidden n stored → c < n
  unfolding hidden
  hidden_below m = range_has n (filter_has is_hidden (range n) m).0

  pub hidden_length : length (hidden n stored) ≤ n
  unfolding hidden
  hidden_length = omega (arith, filter_length is_hidden (range n), tabulate_length n (λ k. k))

  -- ---- where the second row's values stand
  pub twin_stored : (c : ℕ) → T (is_stored n stored c) → twin_of n stored c ≡ c
  unfolding twin_of
  twin_stored c t = rw (T-is (is_stored n stored c) t)

  pub twin_hidden : (c : ℕ) → T (not (is_stored n stored c)) → twin_of n stored c ≡ n + rank n stored c
  unfolding twin_of
  twin_hidden c t = rw (not_is (is_stored n stored c) t)

  -- what holds in a stored and in a hidden column holds in each
  by_column : (P : ℕ → Type 0) → ((c : ℕ) → T (is_stored n stored c) → P c) → ((c : ℕ) → T (is_hidden c) → P c) → (c : ℕ) → P c
  by_column P f g c = go (is_stored n stored c) (f c) (g c)
    where
      go : (b : Bool) → (T b → P c) → (T (not b) → P c) → P c
      go true h k = h tt
      go false h k = k tt

  -- ---- the values of the two rows
  pub first_value : (t : Row) (c : ℕ) → c < n → value (first_row n stored t) c ≡ value t c
  unfolding first_row
  first_value t c h = get_or-take n t c (pos 0) h

  pub second_value : (t : Row) (c : ℕ) → c < n → value (second_row n stored t) c ≡ value t (twin_of n stored c)
  unfolding second_row
  second_value t c h = tabulate_at n (λ c. value t (twin_of n stored c)) c (pos 0) h

  pub second_length : (t : Row) → length (second_row n stored t) ≡ n
  unfolding second_row
  second_length t = tabulate_length n (λ c. value t (twin_of n stored c))

  first_short : (t : Row) → length (first_row n stored t) ≤ n
  unfolding first_row
  first_short t = omega (arith, length-take n t)

  -- they agree in the stored columns
  pub twins_agree : (t : Row) (c : ℕ) → T (is_stored n stored c) → value (first_row n stored t) c ≡ value (second_row n stored t) c
  twins_agree t c s =
      by_less c n
      (λ l. first_value t c l ∙ ap (value t) (sym (twin_stored c s)) ∙ sym (second_value t c l))
      (λ l. get_or-eq_default (first_row n stored t) (pos 0) (omega (arith, first_short t))
      ∙ sym (get_or-eq_default (second_row n stored t) (pos 0) (omega (arith, second_length t))))

  -- so those of the one are those of the other
  pub twins_same : (t : Row) → T (same_row (map (value (first_row n stored t)) stored) (map (value (second_row n stored t)) stored))
  twins_same t = is_same_row (map_cong (value (first_row n stored t)) (value (second_row n stored t)) stored (λ c m.
      twins_agree t c (has_any (eqb c) m (eqb_refl c))))

  -- two rows as one
  unfoldable twins : Row → Row → Row
  twins r s = r ++ map (value s) (hidden n stored)

  -- ---- the bounds of the two rows as one
  module _ (bs : List Bounds) (long : length bs ≡ n) where
    abbrev bound : ℕ → Bounds
    bound c = get_or bs c undeclared

    pub twins_length : length (twin_bounds n stored bs) ≡ n + length (hidden n stored)
    unfolding twin_bounds
    twins_length = length-append bs (map bound (hidden n stored)) ∙ rw (long, length-map (hidden n stored) bound)

    pub twins_most : length (twin_bounds n stored bs) ≤ 2 * n
    twins_most = omega (arith, twins_length, hidden_length)

    pub twin_declared : (c : ℕ) → c < n → twin_of n stored c < length (twin_bounds n stored bs)
    twin_declared c h = by_column (λ c. c < n → twin_of n stored c < length (twin_bounds n stored bs))
        (λ c s l. rw (twin_stored c s, twins_length) (omega arith))
        (λ c s l. rw (twin_hidden c s, twins_length) (omega (arith, (hidden_rank c l s).0)))
        c h

    -- a declared column's bounds stand in its own place and in its twin's
    abbrev bound_at : ℕ → Bounds
    bound_at c = get_or (twin_bounds n stored bs) c undeclared

    pub first_bound : (c : ℕ) → c < n → bound_at c ≡ bound c
    unfolding twin_bounds
    first_bound c h = get_or-append bs (map bound (hidden n stored)) undeclared c (rw long h)

    pub twin_bound : (c : ℕ) → c < n → bound_at (twin_of n stored c) ≡ bound c
    unfolding twin_bounds
    twin_bound c h = by_column (λ c. c < n → bound_at (twin_of n stored c) ≡ bound c)
        (λ c s l. rw (twin_stored c s) (first_bound c l))
        (λ c s l.
        let (i, e) = hidden_rank c l s in
        rw (twin_hidden c s)
        (behind_at bs (map bound (hidden n stored)) n (rank n stored c) undeclared long
        ∙ map_at bound (hidden n stored) (rank n stored c) zero undeclared i ∙ ap bound e))
        c h

    -- each is one of bs, so what holds of all of those holds of all of these
    pub twins_bounds : {b : Bounds} → b ∈ twin_bounds n stored bs → b ∈ bs
    unfolding twin_bounds
    twins_bounds {b} m = go (Memᴰ.append_cases bs m)
      where
        go : (b ∈ bs) ⊎ (b ∈ map bound (hidden n stored)) → b ∈ bs
        go (inl i) = i
        go (inr i) =
            let (c, k, e) = Memᴰ.of_map bound (hidden n stored) i in
            rw (← e) (element bs c undeclared (rw long (hidden_below k)))

    pub twins_all : (p : Bounds → Bool) → T (all_of p bs) → T (all_of p (twin_bounds n stored bs))
    twins_all p h = has_all p (twin_bounds n stored bs) (λ b m. all_has p (twins_bounds m) h)

    -- ---- a row within them is two rows within bounds
    pub first_within : (t : Row) → T (within (twin_bounds n stored bs) t) → T (within bs (first_row n stored t))
    unfolding twin_bounds first_row
    first_within t w = rw (← long) (pairwise_split inside bs (map bound (hidden n stored)) t w).0

    pub second_within : (t : Row) → T (within (twin_bounds n stored bs) t) → T (within bs (second_row n stored t))
    second_within t w =
        at_pairwise inside bs (second_row n stored t) undeclared (pos 0) (second_length t ∙ sym long) (λ c l.
        let h : c < n = rw (← long) l in
        rw (second_value t c h, ← (twin_bound c h))
        (pairwise_at inside (twin_bounds n stored bs) t undeclared (pos 0) w (twin_of n stored c) (twin_declared c h)))

    -- ---- two rows within bounds that agree are one
    module _ (r s : Row) (v : T (within bs r)) (w : T (within bs s)) (agree : (c : ℕ) → T (is_stored n stored c) → value r c ≡ value s c) where
      twins_within : T (within (twin_bounds n stored bs) (twins r s))
      unfolding twin_bounds twins
      twins_within = pairwise_append inside bs (map bound (hidden n stored)) r (map (value s) (hidden n stored)) v
          (pairwise_maps inside bound (value s) (hidden n stored) (λ c m.
          pairwise_at inside bs s undeclared (pos 0) w c (rw long (hidden_below m))))

      first_long : length r ≡ n
      first_long = pairwise_length inside bs r v ∙ long

      second_long : length s ≡ n
      second_long = pairwise_length inside bs s w ∙ long

      twins_first : first_row n stored (twins r s) ≡ r
      unfolding first_row twins
      twins_first = take_at r (map (value s) (hidden n stored)) n first_long

      twins_value : (c : ℕ) → c < n → value (twins r s) (twin_of n stored c) ≡ value s c
      unfolding twins
      twins_value c h = by_column (λ c. c < n → value (twins r s) (twin_of n stored c) ≡ value s c)
          (λ c t l. rw (twin_stored c t) (get_or-append r (map (value s) (hidden n stored)) (pos 0) c (rw first_long l) ∙ agree c t))
          (λ c t l.
          let (i, e) = hidden_rank c l t in
          rw (twin_hidden c t)
          (behind_at r (map (value s) (hidden n stored)) n (rank n stored c) (pos 0) first_long
          ∙ map_at (value s) (hidden n stored) (rank n stored c) zero (pos 0) i ∙ ap (value s) e))
          c h

      twins_second : second_row n stored (twins r s) ≡ s
      twins_second = ext_get_or (pos 0) (second_row n stored (twins r s)) s (second_length (twins r s) ∙ sym second_long) (λ c l.
          let h : c < n = rw (second_length (twins r s)) at l in
          second_value (twins r s) c h ∙ twins_value c h)

      pub twins_exist : (t : Row) × T (within (twin_bounds n stored bs) t) × (first_row n stored t ≡ r) × (second_row n stored t ≡ s)
      twins_exist = (twins r s, twins_within, twins_first, twins_second)

    -- ---- so two rows that agree are sought as one
    abbrev agreeing : Row → Row → Bool
    agreeing r s = same_row (map (value r) stored) (map (value s) stored)

    agreeing_has : (r s : Row) → T (agreeing r s) → (c : ℕ) → T (is_stored n stored c) → value r c ≡ value s c
    agreeing_has r s t c h =
        let (x, m, e) = any_has (eqb c) stored h in
        rw (eqb→eq c x e) (eq_z_is (value r x) (value s x) (maps_pairwise eq_z (value r) (value s) m t))

    pub twins_sought : (p : Row → Row → Bool)
        → two_rows bs (λ r s. same_row (map (value r) stored) (map (value s) stored) && p r s)
        ≡ some_row (twin_bounds n stored bs) (λ t. p (first_row n stored t) (second_row n stored t))
    twins_sought p =
        let two : Row → Row → Bool = λ r s. agreeing r s && p r s in
        let one : Row → Bool = λ t. p (first_row n stored t) (second_row n stored t) in
        same_test (two_rows bs two) (some_row (twin_bounds n stored bs) one)
        (λ t.
        let (r, s, v, w, h) = two_has bs two t in
        let (a, k) = and_yes (agreeing r s) (p r s) h in
        let (q, i, e, f) = twins_exist r s v w (agreeing_has r s a) in
        has_some (twin_bounds n stored bs) one q i (rw (e, f) k))
        (λ t.
        let (q, w, h) = some_has (twin_bounds n stored bs) one t in
        let r = first_row n stored q in
        let s = second_row n stored q in
        has_two bs two r s (first_within q w) (second_within q w) (yes_and (agreeing r s) (p r s) (twins_same q) h))
