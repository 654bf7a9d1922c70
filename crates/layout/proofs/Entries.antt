-- The entries of what has been read so far: each command that is taken adds its own at the end. Assumes nothing.
use mathlib.Core.Path.{◌≡◌, refl, sym}
use mathlib.Core.Logic.{◌⊎◌, inl, inr}
use mathlib.Core.Bool.{Bool, true, false, not, cond, ◌||◌}
use mathlib.Core.List.{List, [], ◌∷◌, ◌++◌, append-nil, append_assoc, map-append}
use Prim.Native.Nat.{ℕ, ◌+◌, ◌<◌, ◌≤◌}
use native.Mathlib.Omega.{arith}
use lib.ListN.{get_or}
use lib.IntN.{ℤ}
use lib.Dec.{T, eqb, leb, leb→le}
use borrow.Author.Tests.{ne_eqb, le-leb, lt-leb}
use Rattle.layout.specs.Sound.{Sound}
use Rattle.base.specs.Lists.{flat_map, is_empty, in_last}
use Rattle.base.proofs.Lists.{flat_map_append, some_snoc}
use Rattle.words.specs.Word.{value_at}
use Rattle.model.specs.Tables.{Table, Against, column, number, Comparison, Clause, Expression, Job}
use Rattle.model.specs.declared.Bounds.{Bounds}
use Rattle.words.specs.Compare.{op_at}
use Rattle.words.proofs.Ops.{op_back}
use Rattle.layout.specs.declared.Command.{Command}
use Rattle.layout.specs.declared.Command.TheVariants.{NextTable, NextColumn, ExtractBegins, QueryBegins, TableUsed, OutputColumn, NextClause, NumberCompared}
use Rattle.layout.specs.declared.Command.TheVariants.{ColumnCompared, End}
use Rattle.layout.specs.Commands.{number_of_command, Entry, add_table, add_column, mark, use_table, add_output, add_clause, add_comparison, entry_at}
use Rattle.layout.specs.Reading.{State, current, follows, with_used, with_output, with_condition, with_current, after}
use Rattle.layout.specs.Writing.{table_entries, clause_entries, expression_entries, entries_of}
use Rattle.layout.proofs.Growing.{either, among, in_condition_lem, at_ending}
use Rattle.layout.proofs.Given.{Given}

-- ---- one more element, one more in the last list
module _ {A B : Type 0} where
  flat_map_last : (f : List A → List B) (a : A) (b : B) → ((x : List A) → f (x ++ a ∷ []) ≡ f x ++ b ∷ []) → (xs : List (List A))
      → T (not (is_empty xs)) → flat_map (in_last xs a) f ≡ flat_map xs f ++ b ∷ []
  flat_map_last f a b h [] t = absurd t
  flat_map_last f a b h (x ∷ []) t = simp append-nil (h x)
  flat_map_last f a b h (x ∷ y ∷ ys) t = rw (flat_map_last f a b h (y ∷ ys) tt) (sym (append_assoc (f x) (flat_map (y ∷ ys) f) (b ∷ [])))

-- an op's number, there and back
-- ---- an expression with one thing more
module _ (e : Expression) where
  entries_used : (t : ℕ) → e.outputs ≡ [] → e.condition ≡ [] → expression_entries (with_used e t) ≡ expression_entries e ++ use_table t ∷ []
  unfolding expression_entries
  entries_used t o k = rw (o, k) (simp (append-nil) (map-append use_table e.used (t ∷ [])))

  entries_output : (c : ℕ) → e.condition ≡ [] → expression_entries (with_output e c) ≡ expression_entries e ++ add_output c ∷ []
  unfolding expression_entries
  entries_output c k = rw k (simp (append-nil, map-append, append_assoc))

  entries_clause : expression_entries (with_condition e (e.condition ++ [] ∷ [])) ≡ expression_entries e ++ add_clause ∷ []
  unfolding expression_entries
  entries_clause = simp (flat_map_append, append_assoc)

  entries_comparison : (o l : ℕ) (r : Against) → o ≤ 4 → T (not (is_empty e.condition))
      → expression_entries (with_condition e (in_last e.condition (record { op = op_at o; left = l; right = r })))
      ≡ expression_entries e ++ add_comparison o l r ∷ []
  unfolding expression_entries
  entries_comparison o l r h t = rw (flat_map_last clause_entries k (add_comparison o l r) one e.condition t) (simp append_assoc)
    where
      k : Comparison
      k = record { op = op_at o; left = l; right = r }

      one : (c : Clause) → clause_entries (c ++ k ∷ []) ≡ clause_entries c ++ add_comparison o l r ∷ []
      one c = simp (map-append, op_back o h)

-- ---- the parts of what has been read
abbrev extract_part : ℕ → Expression → List Entry
extract_part l e = cond (leb 0x20 l) (mark 0x20 ∷ expression_entries e) []

abbrev query_part : Bool → Expression → List Entry
query_part q e = cond q (mark 0x21 ∷ expression_entries e) []

abbrev end_part : ℕ → List Entry
end_part l = cond (eqb l 0xFF) (mark 0xFF ∷ []) []

unfoldable pub so_far : State → List Entry
so_far st =
    flat_map st.job.tables table_entries ++ extract_part st.last st.job.extract ++ query_part st.in_query st.job.query
    ++ end_part st.last

-- ---- each command adds its entry

-- a command in an expression
in_part : (l d : ℕ) (q : Bool) (j : Job) (e : Expression) (x : Entry) → 0x20 ≤ l → l ≤ 0x42 → 0x30 ≤ d → d ≤ 0x42
    → expression_entries e ≡ expression_entries (cond q j.query j.extract) ++ x ∷ []
    → so_far (record { last = d; in_query = q || eqb d 0x21; job = with_current q j e })
    ≡ so_far (record { last = l; in_query = q; job = j }) ++ x ∷ []
unfolding so_far
in_part l d true j e x lo hi f g h =
    rw (le-leb 0x20 l lo, le-leb 0x20 d (omega arith), ne_eqb l 0xFF (λ z. omega arith), ne_eqb d 0xFF (λ z. omega arith), h)
    (simp (append-nil, append_assoc))
in_part l d false j e x lo hi f g h =
    rw (
      le-leb 0x20 l lo,
      le-leb 0x20 d (omega arith),
      ne_eqb l 0xFF (λ z. omega arith),
      ne_eqb d 0xFF (λ z. omega arith),
      ne_eqb d 0x21 (λ z. omega arith),
      h,
    )
    (simp (append-nil, append_assoc))

module _ (st : State) (s : Sound st) where
  -- while tables are declared there is nothing but tables
  declared_so_far : st.last < 0x20 → so_far st ≡ flat_map st.job.tables table_entries
  unfolding so_far
  declared_so_far h = rw ((s.declaring h).0, lt-leb 0x20 st.last h, ne_eqb st.last 0xFF (λ z. omega arith)) (simp append-nil)

  more_table : T (follows st NextTable) → so_far (after 0x10 add_table st) ≡ so_far st ++ add_table ∷ []
  unfolding so_far
  more_table f =
      let (lo, hi) = among st.last 0 0x11 (0 ∷ 0x11 ∷ []) f tt in
      let (q, x) = s.declaring (omega arith) in
      rw (declared_so_far (omega arith), q) (simp append-nil (flat_map_append st.job.tables ([] ∷ []) table_entries))

  more_column : (lo hi : ℤ) → T (follows st NextColumn) → so_far (after 0x11 (add_column lo hi) st) ≡ so_far st ++ add_column lo hi ∷ []
  unfolding so_far
  more_column lo hi f =
      let (l, h) = among st.last 0x10 0x11 (0x10 ∷ 0x11 ∷ []) f tt in
      let (q, x) = s.declaring (omega arith) in
      rw (declared_so_far (omega arith), q)
      (simp append-nil (flat_map_last table_entries b (add_column lo hi) one st.job.tables (some (either st.last 0x10 0x11 f))))
    where
      b : Bounds
      b = record { lo = lo; hi = hi }

      one : (t : Table) → table_entries (t ++ b ∷ []) ≡ table_entries t ++ add_column lo hi ∷ []
      one t = simp map-append

      some : (st.last ≡ 0x10) ⊎ (st.last ≡ 0x11) → T (not (is_empty st.job.tables))
      some (inl z) = let (ts, e, each) = s.opened z in rw e (some_snoc ts [])
      some (inr z) = (s.filled (omega arith)).0

  more_extract : T (follows st ExtractBegins) → so_far (after 0x20 (mark 0x20) st) ≡ so_far st ++ mark 0x20 ∷ []
  unfolding so_far expression_entries
  more_extract f =
      let (lo, hi) = among st.last 0x11 0x11 (0x11 ∷ []) f tt in
      let (q, x) = s.declaring (omega arith) in
      rw (declared_so_far (omega arith), q, x) (simp append-nil)

  more_used : (t : ℕ) → T (follows st TableUsed) → so_far (after 0x30 (use_table t) st) ≡ so_far st ++ use_table t ∷ []
  more_used t f =
      let (lo, hi) = among st.last 0x20 0x30 (0x20 ∷ 0x21 ∷ 0x30 ∷ []) f tt in
      in_part st.last 0x30 st.in_query st.job _ (use_table t) lo (omega arith) (omega arith) (omega arith)
      (entries_used (current st) t (s.begun.no_outputs (omega arith)) (s.begun.no_clauses (omega arith)))

  more_output : (c : ℕ) → T (follows st OutputColumn) → so_far (after 0x31 (add_output c) st) ≡ so_far st ++ add_output c ∷ []
  more_output c f =
      let (lo, hi) = among st.last 0x30 0x31 (0x30 ∷ 0x31 ∷ []) f tt in
      in_part st.last 0x31 st.in_query st.job _ (add_output c) (omega arith) (omega arith) (omega arith) (omega arith)
      (entries_output (current st) c (s.begun.no_clauses (omega arith)))

  more_clause : T (follows st NextClause) → so_far (after 0x40 add_clause st) ≡ so_far st ++ add_clause ∷ []
  more_clause f =
      let (lo, hi) = at_ending st.last f in
      in_part st.last 0x40 st.in_query st.job _ add_clause (omega arith) hi (omega arith) (omega arith) (entries_clause (current st))

  more_comparison : (d o l : ℕ) (r : Against) → 0x41 ≤ d → d ≤ 0x42 → T (follows st NumberCompared) → T (leb o 4)
      → so_far (after d (add_comparison o l r) st) ≡ so_far st ++ add_comparison o l r ∷ []
  more_comparison d o l r g h f k =
      let (lo, hi) = in_condition_lem st.last f in
      in_part st.last d st.in_query st.job _ (add_comparison o l r) (omega arith) hi (omega arith) h
      (entries_comparison (current st) o l r (leb→le o 4 k) (s.begun.some_clauses f))

more_query : (l : ℕ) (q : Bool) (j : Job) → Sound (record { last = l; in_query = q; job = j })
    → T (follows (record { last = l; in_query = q; job = j }) QueryBegins)
    → so_far (after 0x21 (mark 0x21) (record { last = l; in_query = q; job = j }))
    ≡ so_far (record { last = l; in_query = q; job = j }) ++ mark 0x21 ∷ []
unfolding so_far expression_entries
more_query l true j s f = absurd f
more_query l false j s f =
    let (lo, hi) = at_ending l f in
    rw (le-leb 0x20 l (omega arith), ne_eqb l 0xFF (λ z. omega arith), s.waiting refl) (simp (append-nil, append_assoc))

more_last : (l : ℕ) (q : Bool) (j : Job) → T (follows (record { last = l; in_query = q; job = j }) End)
    → so_far (after 0xFF (mark 0xFF) (record { last = l; in_query = q; job = j }))
    ≡ so_far (record { last = l; in_query = q; job = j }) ++ mark 0xFF ∷ []
unfolding so_far
more_last l false j f = absurd f
more_last l true j f =
    let (lo, hi) = at_ending l f in
    rw (le-leb 0x20 l (omega arith), ne_eqb l 0xFF (λ z. omega arith)) (simp append-nil)

-- a command that passed its checks
module _ (s : List ℕ) (at at' : ℕ) (st st' : State) where
  given_more : (c : Command) → Sound st → Given s at st at' st' c
      → so_far (after (number_of_command c) (entry_at c s at) st) ≡ so_far st ++ entry_at c s at ∷ []
  given_more NextTable h g = more_table st h g.follow
  given_more NextColumn h g = more_column st h (value_at 4 s (at + 1)) (value_at 4 s (at + 5)) g.follow
  given_more ExtractBegins h g = more_extract st h g.follow
  given_more QueryBegins h g = more_query st.last st.in_query st.job h g.follow
  given_more TableUsed h g = more_used st h (get_or s (at + 1) 0) g.follow
  given_more OutputColumn h g = more_output st h (get_or s (at + 1) 0) g.follow
  given_more NextClause h g = more_clause st h g.follow
  given_more NumberCompared h g =
      more_comparison st h 0x41 (get_or s (at + 1) 0) (get_or s (at + 2) 0) (number (value_at 4 s (at + 3))) (omega arith) (omega arith)
      g.follow g.known
  given_more ColumnCompared h g =
      more_comparison st h 0x42 (get_or s (at + 1) 0) (get_or s (at + 2) 0) (column (get_or s (at + 3) 0)) (omega arith) (omega arith)
      g.follow g.known
  given_more End h g = more_last st.last st.in_query st.job g.follow

  pub step_more : (c : Command) → Sound st → Given s at st at' st' c → so_far st' ≡ so_far st ++ entry_at c s at ∷ []
  step_more c h g = rw (← g.state) (given_more c h g)

-- at the end these are the job's entries
pub end_so_far : (st : State) → Sound st → st.last ≡ 0xFF → so_far st ≡ entries_of st.job
unfolding so_far entries_of
end_so_far st s l = rw (l, s.closed l)
