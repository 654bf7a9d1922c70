-- Two rows as one, column by column. Assumes nothing.
use mathlib.Core.Path.{◌≡◌, refl, sym, ap, ◌∙◌}
use mathlib.Core.Bool.{Bool, true, false, not}
use mathlib.Core.List.{List, [], ◌∷◌, ◌++◌, map, append-nil, append_assoc}
use Prim.Native.Nat.{ℕ, ◌+◌, ◌<◌, ◌≤◌}
use native.Mathlib.Omega.{arith}
use native.Mathlib.Numerals.{add-one}
use lib.IntN.{pos}
use lib.ListN.{length, get_or, take, replicate, length-append, length-map, length-take}
use lib.Seq.{take-suc, take_all}
use lib.Dec.{eqb}
use Rattle.base.proofs.Places.{map_at, tabulate_cong, tabulate_length, filter_range}
use Rattle.base.specs.Lists.{any_of, filter, at, range, tabulate}
use Rattle.base.proofs.Lists.{map_snoc, filter_length}
use Rattle.base.proofs.Arrays.{padded_more, take_padded, entries_at, entries_past, entries_more}
use Rattle.base.proofs.Tests.{by_less}
use Rattle.model.specs.Tables.{Row, value}
use Rattle.model.specs.declared.Bounds.{Bounds}
use Rattle.std.specs.Array.{AllOfLen}
use Rattle.job.specs.declared.Column.{Column}
use Rattle.job.specs.declared.Columns.{Columns}
use Rattle.job.proofs.Defaults.{filled}
use Rattle.job.specs.Meaning.{bounds_of}
use Rattle.twins.specs.declared.TwinRows.{TwinRows}
use Rattle.twins.specs.Twins.{is_stored, hidden, rank, twin_of, twin_bounds}
use Rattle.twins.proofs.Rows.{first_row, second_row}
use Rattle.twins.specs.Records.{no_bounds, twins_of, column_more, twin_more, taken, twins_record}
use Rattle.twins.specs.Uses.{Names, TwinsStand}
use Rattle.twins.proofs.Twins.{twin_stored, twin_hidden, twin_declared, twins_most}

column_more_lem : (bs : List Bounds) (ts : List ℕ) (b : Bounds) → length bs < 32
    → column_more (twins_of bs ts) b ≡ twins_of (bs ++ b ∷ []) ts
unfolding twins_of
column_more_lem bs ts b h =
    let one : length bs + 1 ≡ length (bs ++ b ∷ []) = sym (length-append bs (b ∷ [])) in
    rw (one, padded_more 32 no_bounds bs b h)

twin_more_lem : (bs : List Bounds) (f : ℕ → ℕ) (c : ℕ) → c < 16
    → twin_more (twins_of bs (tabulate c f)) c (f c) ≡ twins_of bs (tabulate (c + 1) f)
unfolding twins_of
twin_more_lem bs f c h = rw (entries_more 16 0 c f h)

-- ---- no columns
is_no_bounds : (b : Bounds) → (b.lo ≡ pos 0) × (b.hi ≡ pos 0) → b ≡ no_bounds
is_no_bounds b h =
    let lo = h.0 in let hi = h.1 in
    let all : ◌≡◌ {A = Bounds} (record { lo = b.lo; hi = b.hi }) no_bounds = cc in all

pub no_twins : (t : TwinRows)
    → (t.columns ≡ 0) × (AllOfLen (λ n. n ≡ 0) t.twin 16 × AllOfLen (λ b. (b.lo ≡ pos 0) × (b.hi ≡ pos 0)) t.bounds 32) → t ≡ twins_of [] []
unfolding twins_of
no_twins t h =
    let columns = h.0 in
    let twin = filled 0 (λ n e. e) t.twin 16 h.1.0 in
    let bounds = filled no_bounds is_no_bounds t.bounds 32 h.1.1 in
    let all : ◌≡◌ {A = TwinRows} (record { columns = t.columns; twin = t.twin; bounds = t.bounds })
    (record { columns = 0; twin = replicate 16 0; bounds = replicate 32 no_bounds }) = cc in all

-- ---- columns that are declared
pub few_of : (k : Columns) {xs : List Column} → xs ≡ take k.width k.columns → k.width ≤ 16 → length xs ≤ 16
few_of k is few = rw is (omega (arith, length-take k.width k.columns))

-- ---- the first row
module _ (xs : List Column) (few : length xs ≤ 16) (c : ℕ) {t : TwinRows} (is : t ≡ twins_of (map bounds_of (take c xs)) []) where
  first_length : length (map bounds_of (take c xs)) ≤ 16
  first_length = omega (arith, length-map (take c xs) bounds_of, length-take c xs)

  pub first_room : t.columns < 32
  unfolding twins_of
  first_room = rw is (omega (arith, first_length))

  pub first_more : (d : Column) → c < length xs → column_more t (bounds_of (get_or xs c d)) ≡ twins_of (map bounds_of (take (c + 1) xs)) []
  first_more d h =
      let b : Bounds = bounds_of (get_or xs c d) in
      let more : map bounds_of (take c xs) ++ b ∷ [] ≡ map bounds_of (take (c + 1) xs) =
      rw (add-one c, take-suc xs c d h, map_snoc bounds_of (take c xs) (get_or xs c d)) in
      ap (λ (t : TwinRows). column_more t b) is ∙ column_more_lem (map bounds_of (take c xs)) [] b (omega (arith, first_length))
      ∙ ap (λ (bs : List Bounds). twins_of bs []) more

  pub first_all : length xs ≤ c → t ≡ twins_of (map bounds_of xs) []
  first_all h = is ∙ ap (λ (l : List Column). twins_of (map bounds_of l) []) (take_all c xs h)

-- ---- the second row
module _ (bs : List Bounds) (stored : List ℕ) where
  abbrev n : ℕ
  n = length bs

  abbrev is_hidden : ℕ → Bool
  is_hidden c = not (is_stored n stored c)

  abbrev bound : ℕ → Bounds
  bound c = get_or bs c no_bounds

  abbrev own : ℕ → List Bounds
  own c = map bound (filter is_hidden (range c))

  -- its columns below c taken
  unfoldable pub till : ℕ → TwinRows
  till c = twins_of (bs ++ own c) (tabulate c (twin_of n stored))

  till_none : till 0 ≡ twins_of bs []
  unfolding till
  till_none = rw (append-nil bs)

  till_all : till n ≡ twins_record bs stored
  unfolding till twins_record twin_bounds hidden
  till_all = refl

  own_length : (c : ℕ) → length (bs ++ own c) ≡ n + rank n stored c
  unfolding rank
  own_length c = length-append bs (own c) ∙ ap (λ (m : ℕ). n + m) (length-map (filter is_hidden (range c)) bound)

  rank_short : (c : ℕ) → rank n stored c ≤ c
  unfolding rank
  rank_short c = omega (arith, filter_length is_hidden (range c), tabulate_length c (λ k. k))

  own_short : n ≤ 16 → (c : ℕ) → c < n → length (bs ++ own c) < 32
  own_short few c h = omega (arith, own_length c, rank_short c)

  till_room : n ≤ 16 → (c : ℕ) → c < n → (till c).columns < 32
  unfolding till twins_of
  till_room = own_short

  till_columns : (c : ℕ) → (till c).columns ≡ n + rank n stored c
  unfolding till twins_of
  till_columns = own_length

  module _ (few : n ≤ 16) (c : ℕ) (b : Bounds) (here : b ≡ bound c) (h : c < n) where
    place : twin_more (till c) c (twin_of n stored c) ≡ twins_of (bs ++ own c) (tabulate (c + 1) (twin_of n stored))
    unfolding till
    place = twin_more_lem (bs ++ own c) (twin_of n stored) c (omega arith)

    stored_more : is_stored n stored c ≡ true → twin_more (till c) c c ≡ till (c + 1)
    unfolding till
    stored_more i =
        let same : own (c + 1) ≡ own c = rw (add-one c, filter_range is_hidden c, i, append-nil (filter is_hidden (range c))) in
        ap (twin_more (till c) c) (sym (twin_stored n stored c (rw i tt))) ∙ place
        ∙ ap (λ (xs : List Bounds). twins_of (bs ++ xs) (tabulate (c + 1) (twin_of n stored))) (sym same)

    hidden_more : is_stored n stored c ≡ false → column_more (twin_more (till c) c (till c).columns) b ≡ till (c + 1)
    unfolding till
    hidden_more i =
        let more : own (c + 1) ≡ own c ++ b ∷ [] =
        rw (add-one c, filter_range is_hidden c, i, map_snoc bound (filter is_hidden (range c)) c, here) in
        let names = tabulate (c + 1) (twin_of n stored) in
        ap (λ (v : ℕ). column_more (twin_more (till c) c v) b) (till_columns c ∙ sym (twin_hidden n stored c (rw i tt)))
        ∙ ap (λ (t : TwinRows). column_more t b) place
        ∙ column_more_lem (bs ++ own c) names b (own_short few c h)
        ∙ ap (λ (xs : List Bounds). twins_of xs names) (append_assoc bs (own c) (b ∷ []) ∙ ap (λ (xs : List Bounds). bs ++ xs) (sym more))

    till_more : taken (till c) c b (any_of (eqb c) stored) ≡ till (c + 1)
    till_more = go (is_stored n stored c) refl
      where
        go : (s : Bool) → is_stored n stored c ≡ s → taken (till c) c b s ≡ till (c + 1)
        go true i = stored_more i
        go false i = hidden_more i

-- ---- both rows of some columns
module _ (xs : List Column) (outs : List ℕ) where
  abbrev given : List Bounds
  given = map bounds_of xs

  -- the columns of the second row below c taken
  abbrev pub Both : ℕ → TwinRows → Type 0
  Both c t = t ≡ till (map bounds_of xs) outs c

  pub both_begin : {t : TwinRows} → t ≡ twins_of (map bounds_of xs) [] → Both 0 t
  both_begin e = e ∙ sym (till_none given outs)

  pub both_end : {c : ℕ} {t : TwinRows} → Both c t → c ≡ length xs → t ≡ twins_record (map bounds_of xs) outs
  both_end is e = is ∙ ap (till given outs) (e ∙ sym (length-map xs bounds_of)) ∙ till_all given outs

  module _ (few : length xs ≤ 16) {c : ℕ} (h : c < length xs) {t : TwinRows} (is : Both c t) where
    pub both_room : t.columns < 32
    both_room = rw is (till_room given outs (omega (arith, length-map xs bounds_of)) c (omega (arith, length-map xs bounds_of)))

    pub both_more : (d : Column) → Both (c + 1) (taken t c (bounds_of (get_or xs c d)) (any_of (eqb c) outs))
    both_more d =
        let b : Bounds = bounds_of (get_or xs c d) in
        ap (λ (t : TwinRows). taken t c b (any_of (eqb c) outs)) is
        ∙ till_more given outs (omega (arith, length-map xs bounds_of)) c b (sym (map_at bounds_of xs c d no_bounds h))
        (omega (arith, length-map xs bounds_of))

-- ---- the bounds of both rows
module _ (bs : List Bounds) (stored : List ℕ) where
  abbrev both : TwinRows
  both = twins_record bs stored

  pub record_columns : both.columns ≡ length (twin_bounds (length bs) stored bs)
  unfolding twins_record twins_of
  record_columns = refl

  pub record_bounds : take both.columns both.bounds ≡ twin_bounds (length bs) stored bs
  unfolding twins_record twins_of
  record_bounds = take_padded 32 no_bounds (twin_bounds (length bs) stored bs) (length (twin_bounds (length bs) stored bs)) refl

-- ---- where the second row's values stand
module _ (bs : List Bounds) (stored : List ℕ) where
  abbrev names : List ℕ
  names = (twins_record bs stored).twin

  pub twin_at : (c : ℕ) → c < length bs → at names c ≡ twin_of (length bs) stored c
  unfolding twins_record twins_of
  twin_at c h = entries_at 16 0 (length bs) (twin_of (length bs) stored) c 0 h

  twin_past : (c : ℕ) → length bs ≤ c → at names c ≡ 0
  unfolding twins_record twins_of
  twin_past c h = entries_past 16 0 (length bs) (twin_of (length bs) stored) c h

  module _ (few : length bs ≤ 16) where
    twin_most : (c : ℕ) → c < length bs → at names c < 32
    twin_most c h = omega (arith, twin_at c h, twin_declared (length bs) stored bs refl c h, twins_most (length bs) stored bs refl)

    pub twin_names : Names names
    twin_names c h = by_less c (length bs) (λ l. omega (arith, twin_most c l)) (λ l. omega (arith, twin_past c l))

    pub twins_stand : TwinsStand names (length bs)
    twins_stand = record { few = few; stand = twin_most }

  -- ---- the rows that are read off both
  pub first_is : (row : Row) → take (length bs) row ≡ first_row (length bs) stored row
  unfolding first_row
  first_is row = refl

  pub second_is : (row : Row) → tabulate (length bs) (λ c. value row (at names c)) ≡ second_row (length bs) stored row
  unfolding second_row
  second_is row =
      tabulate_cong (length bs) (λ c. value row (at names c)) (λ c. value row (twin_of (length bs) stored c)) (λ c h. ap (value row) (twin_at c h))
