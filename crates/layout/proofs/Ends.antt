-- A job that is accepted: what each step keeps holds at the end, and a sound state at the end has a well-formed job. Assumes nothing.
use mathlib.Core.Path.{◌≡◌, refl}
use mathlib.Core.Bool.{Bool, true, false, not, cond, ◌&&◌}
use mathlib.Core.List.{List, [], ◌∷◌}
use Prim.Native.Nat.{ℕ, zero, suc, ◌≤◌}
use native.Mathlib.Omega.{arith}
use lib.ListN.{length}
use lib.Signed.{le_z}
use lib.Dec.{T, eqb, le→leb}
use mir.Facts.{and_yes, yes_and}
use borrow.Author.Tests.{eqb-true}
use Rattle.layout.specs.Sound.{Sound}
use Rattle.base.specs.Lists.{all_of, is_empty}
use Rattle.base.proofs.Lists.{all_weaker, all_both, all_concat}
use Rattle.model.specs.Tables.{Table, Job, columns_of}
use Rattle.model.specs.declared.Bounds.{Bounds}
use Rattle.model.specs.WellFormed.{in_range, structured, limited, well_formed}
use Rattle.layout.specs.Reading.{State, at_start, Step, next, stop, step_of, Reading, accepted, refused, ended, onward, read_from, starts, read_of}
use Rattle.layout.proofs.Keeps.{begun_formed}

-- ---- reading to the end
pub record Ended (P : ℕ → State → Type 0) (s : List ℕ) (j : Job) : Type 0 where
  pub final : State
  pub kept : P (length s) final
  pub closing : final.last ≡ 0xFF
  pub same : final.job ≡ j

module _ (P : ℕ → State → Type 0) (s : List ℕ) (j : Job)
    (step : (at at' : ℕ) (st st' : State) → P at st → step_of s at st ≡ next at' st' → P at' st') where
  at_end : (at : ℕ) (st : State) → P at st → st.last ≡ 0xFF → ended s at st ≡ accepted j → Ended P s j
  at_end at st p l e = go (eqb at (length s)) refl e
    where
      go : (b : Bool) → eqb at (length s) ≡ b → cond b (accepted st.job) (refused 11 at) ≡ accepted j → Ended P s j
      go true h f = record { final = st; kept = rw (eqb-true at (length s) h) at p; closing = l; same = cc }
      go false h f = let w : ◌≡◌ {A = ℕ} 0 1 = cc in absurd (omega arith)

  -- after a step, reading is at the end or goes on
  goes_on : (rest : ℕ → State → Reading) → ((at : ℕ) (st : State) → P at st → rest at st ≡ accepted j → Ended P s j)
      → (at : ℕ) (st : State) → P at st → (x : Step) → step_of s at st ≡ x → onward s x rest ≡ accepted j → Ended P s j
  goes_on rest more at st p (stop n i) h e = let w : ◌≡◌ {A = ℕ} 0 1 = cc in absurd (omega arith)
  goes_on rest more at st p (next at' st') h e = go (eqb st'.last 0xFF) refl e
    where
      go : (b : Bool) → eqb st'.last 0xFF ≡ b → cond b (ended s at' st') (rest at' st') ≡ accepted j → Ended P s j
      go true k f = at_end at' st' (step at at' st st' p h) (eqb-true st'.last 0xFF k) f
      go false k f = more at' st' (step at at' st st' p h) f

  from : (n at : ℕ) (st : State) → P at st → read_from n s at st ≡ accepted j → Ended P s j
  from zero at st p e = let w : ◌≡◌ {A = ℕ} 0 1 = cc in absurd (omega arith)
  from (suc n) at st p e = goes_on (read_from n s) (from n) at st p (step_of s at st) refl e

  pub read_ended : (T (starts s) → P 4 at_start) → read_of s ≡ accepted j → Ended P s j
  unfolding read_of
  read_ended start e = go (starts s) start e
    where
      go : (b : Bool) → (T b → P 4 at_start) → cond b (read_from (length s) s 4 at_start) (refused 1 0) ≡ accepted j → Ended P s j
      go true p f = from (length s) 4 at_start (p tt) f
      go false p f = let w : ◌≡◌ {A = ℕ} 0 1 = cc in absurd (omega arith)

-- ---- the job of a sound state at the end

-- at least one column, where there is a table and each has one
some_columns : (ts : List Table) → T (not (is_empty ts)) → T (all_of (λ t. not (is_empty t)) ts) → 1 ≤ length (columns_of ts)
some_columns [] s a = absurd s
some_columns ([] ∷ ts) s a = absurd a
some_columns ((b ∷ bs) ∷ ts) s a = omega arith

some_tables : (ts : List Table) → T (not (is_empty ts)) → 1 ≤ length ts
some_tables [] s = absurd s
some_tables (t ∷ ts) s = omega arith

pub sound_end : (st : State) → Sound st → st.last ≡ 0xFF → T (well_formed st.job)
unfolding well_formed structured limited
sound_end st s l =
    let q = s.closed l in
    let (x, xl) = s.finished q in
    let (y, yl) = begun_formed st.job.tables st.last st.job.query (rw q at s.begun) (omega arith) in
    let (some, each) = s.filled (omega arith) in
    let ordered =
    all_concat (λ b. le_z b.lo b.hi) ts
    (all_weaker full (λ b. le_z b.lo b.hi) (λ b t. (parts b t).1) (columns_of ts) s.bounds) in
    let tables = all_both (λ t. not (is_empty t)) (all_of (λ b. le_z b.lo b.hi)) ts each ordered in
    let ranges = all_weaker full (λ b. in_range b.lo && in_range b.hi) (λ b t. (parts b t).0) (columns_of ts) s.bounds in
    let t₁ = le→leb 1 (length ts) (some_tables ts some) in
    let t₄ = le→leb (length ts) 4 s.few_tables in
    let c₁ = le→leb 1 (length (columns_of ts)) (some_columns ts some each) in
    let c₁₆ = le→leb (length (columns_of ts)) 16 s.few_columns in
    search yes_and depth 9
  where
    ts : List Table
    ts = st.job.tables

    full : Bounds → Bool
    full b = in_range b.lo && in_range b.hi && le_z b.lo b.hi

    parts : (b : Bounds) → T (full b) → T (in_range b.lo && in_range b.hi) × T (le_z b.lo b.hi)
    parts b t = and_yes (in_range b.lo && in_range b.hi) (le_z b.lo b.hi) t
