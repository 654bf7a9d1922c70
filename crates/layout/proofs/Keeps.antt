-- Reading keeps its states sound: one law for each command. Assumes nothing.
use mathlib.Core.Path.{◌≡◌, refl}
use mathlib.Core.Logic.{◌⊎◌, inl, inr}
use mathlib.Core.Bool.{Bool, true, false, not, cond, ◌&&◌, true≢false, false≢true, ◌||◌}
use mathlib.Core.List.{List, [], ◌∷◌, ◌++◌}
use Prim.Native.Nat.{ℕ, ◌+◌, ◌<◌, ◌≤◌}
use native.Mathlib.Omega.{arith}
use lib.ListN.{length, get_or, length-append}
use lib.IntN.{ℤ}
use lib.Signed.{le_z}
use lib.Dec.{T, eqb, ltb, leb, ltb→lt, le→leb}
use mir.Facts.{and_yes, yes_and}
use borrow.Author.Tests.{ne_eqb}
use Rattle.layout.specs.Sound.{Begun, Sound}
use Rattle.base.specs.Lists.{any_of, all_of, is_empty, last_of, in_last}
use Rattle.base.proofs.Lists.{all_snoc, some_snoc, all_weaker, all_both, all_last, length_last, some_last, last_filled, concat_more, concat_last}
use Rattle.words.specs.Word.{value_at}
use Rattle.model.specs.Tables.{Table, Against, column, number, Comparison, Condition, Expression, Job, columns_of, uses}
use Rattle.model.specs.declared.Bounds.{Bounds}
use Rattle.words.specs.Compare.{op_at}
use Rattle.model.specs.WellFormed.{in_scope, against_in_scope, comparison_formed, in_range, against_limited, expression_formed, condition_limited}
use Rattle.layout.specs.declared.Command.{Command}
use Rattle.layout.specs.declared.Command.TheVariants.{NextTable, NextColumn, ExtractBegins, QueryBegins, TableUsed, OutputColumn, NextClause, NumberCompared}
use Rattle.layout.specs.declared.Command.TheVariants.{ColumnCompared, End}
use Rattle.layout.specs.Commands.{number_of_command, in_condition, add_table, add_column, mark, use_table, add_output, add_clause, add_comparison, entry_at}
use Rattle.layout.specs.Reading.{State, no_expression, at_start, current, follows, has_room, above_last, with_used, with_output, with_condition, with_current}
use Rattle.layout.specs.Reading.{after, next, step_of}
use Rattle.layout.proofs.Growing.{ascending_more, differ_more, either, among, in_condition_lem, at_ending}
use Rattle.layout.proofs.Given.{Given, step_given}

-- ---- an expression with one thing more

begun_none : (ts : List Table) (l : ℕ) → l < 0x30 → Begun ts l no_expression
begun_none ts l h = record {
  declared = tt;
  ascends = tt;
  in_scope = tt;
  differ = tt;
  formed = tt;
  numbers = tt;
  few_clauses = omega arith;
  few_comparisons = tt;
  no_used = λ _. refl;
  some_used = λ k. absurd (omega arith);
  no_outputs = λ _. refl;
  some_outputs = λ k. absurd (omega arith);
  no_clauses = λ _. refl;
  some_clauses = λ t. let (lo, hi) = in_condition_lem l t in absurd (omega arith);
}

-- what is in scope doesn't depend on the condition
module _ (ts : List Table) (e : Expression) (x : Condition) where
  side_with : (a : Against) → T (against_in_scope ts e a) → T (against_in_scope ts (with_condition e x) a)
  unfolding uses
  side_with (column c) t = t
  side_with (number v) t = tt

  comparison_with : (k : Comparison) → T (comparison_formed ts e k) → T (comparison_formed ts (with_condition e x) k)
  unfolding uses
  comparison_with k t =
      let (m, n) = and_yes (in_scope ts e k.left) (against_in_scope ts e k.right) t in
      yes_and (in_scope ts e k.left) (against_in_scope ts (with_condition e x) k.right) m (side_with k.right n)

  clauses_with : (y : Condition) → T (all_of (all_of (comparison_formed ts e)) y)
      → T (all_of (all_of (comparison_formed ts (with_condition e x))) y)
  clauses_with = all_weaker _ _ (all_weaker (comparison_formed ts e) (comparison_formed ts (with_condition e x)) comparison_with)

module _ (ts : List Table) (l : ℕ) (e : Expression) (b : Begun ts l e) where
  begun_used : (t : ℕ) → l < 0x31 → T (ltb t (length ts)) → T (above_last e.used t) → Begun ts 0x30 (with_used e t)
  begun_used t h d a =
      let no_outputs = b.no_outputs h in
      let no_clauses = b.no_clauses (omega arith) in
      record {
        declared = all_snoc (λ u. ltb u (length ts)) e.used t b.declared d;
        ascends = ascending_more e.used t b.ascends a;
        in_scope = rw no_outputs tt;
        differ = rw no_outputs tt;
        formed = rw no_clauses tt;
        numbers = rw no_clauses tt;
        few_clauses = rw no_clauses (omega arith);
        few_comparisons = rw no_clauses tt;
        no_used = λ k. absurd (omega arith);
        some_used = λ k. some_snoc e.used t;
        no_outputs = λ k. no_outputs;
        some_outputs = λ k. absurd (omega arith);
        no_clauses = λ k. no_clauses;
        some_clauses = λ t. absurd t;
      }

  begun_output : (c : ℕ) → 0x30 ≤ l → l < 0x40 → T (in_scope ts e c) → T (not (any_of (eqb c) e.outputs)) → Begun ts 0x31 (with_output e c)
  unfolding uses
  begun_output c g h s n =
      let no_clauses = b.no_clauses h in
      record {
        declared = b.declared;
        ascends = b.ascends;
        in_scope = all_snoc (in_scope ts e) e.outputs c b.in_scope s;
        differ = differ_more e.outputs c b.differ n;
        formed = rw no_clauses tt;
        numbers = rw no_clauses tt;
        few_clauses = rw no_clauses (omega arith);
        few_comparisons = rw no_clauses tt;
        no_used = λ k. absurd (omega arith);
        some_used = λ k. b.some_used g;
        no_outputs = λ k. absurd (omega arith);
        some_outputs = λ k. some_snoc e.outputs c;
        no_clauses = λ k. no_clauses;
        some_clauses = λ t. absurd t;
      }

  -- another condition
  begun_with : (d : ℕ) (x : Condition) → 0x31 ≤ l → 0x40 ≤ d → T (all_of (all_of (comparison_formed ts e)) x)
      → T (all_of (all_of (λ k. against_limited k.right)) x) → length x ≤ 4 → T (all_of (λ c. leb (length c) 6) x)
      → (T (any_of (eqb d) in_condition) → T (not (is_empty x))) → Begun ts d (with_condition e x)
  unfolding uses
  begun_with d x g h f n c k i = record {
    declared = b.declared;
    ascends = b.ascends;
    in_scope = b.in_scope;
    differ = b.differ;
    formed = clauses_with ts e x x f;
    numbers = n;
    few_clauses = c;
    few_comparisons = k;
    no_used = λ z. absurd (omega arith);
    some_used = λ z. b.some_used (omega arith);
    no_outputs = λ z. absurd (omega arith);
    some_outputs = λ z. b.some_outputs g;
    no_clauses = λ z. absurd (omega arith);
    some_clauses = i;
  }

  begun_clause : 0x31 ≤ l → T (ltb (length e.condition) 4) → Begun ts 0x40 (with_condition e (e.condition ++ [] ∷ []))
  begun_clause g r =
      begun_with 0x40 (e.condition ++ [] ∷ []) g (omega arith)
      (all_snoc (all_of (comparison_formed ts e)) e.condition [] b.formed tt)
      (all_snoc (all_of (λ k. against_limited k.right)) e.condition [] b.numbers tt)
      (simp length-append (omega (arith, ltb→lt (length e.condition) 4 r)))
      (all_snoc (λ c. leb (length c) 6) e.condition [] b.few_comparisons tt)
      (λ z. some_snoc e.condition [])

  begun_comparison : (d : ℕ) (k : Comparison) → 0x41 ≤ d → T (any_of (eqb l) in_condition) → T (ltb (length (last_of e.condition)) 6)
      → T (comparison_formed ts e k) → T (against_limited k.right) → Begun ts d (with_condition e (in_last e.condition k))
  begun_comparison d k i g r f a =
      let (lo, hi) = in_condition_lem l g in
      let one_more : length (last_of e.condition ++ k ∷ []) ≤ 6 =
      simp length-append (omega (arith, ltb→lt (length (last_of e.condition)) 6 r)) in
      begun_with d (in_last e.condition k) (omega arith) (omega arith)
      (all_last (all_of (comparison_formed ts e)) e.condition k b.formed
      (λ t. all_snoc (comparison_formed ts e) (last_of e.condition) k t f))
      (all_last (all_of (λ x. against_limited x.right)) e.condition k b.numbers
      (λ t. all_snoc (λ x. against_limited x.right) (last_of e.condition) k t a))
      (rw (length_last e.condition k) b.few_clauses)
      (all_last (λ c. leb (length c) 6) e.condition k b.few_comparisons
      (λ t. le→leb (length (last_of e.condition ++ k ∷ [])) 6 one_more))
      (λ z. some_last e.condition k (b.some_clauses g))

  -- the job's end adds nothing
  begun_end : 0x31 ≤ l → Begun ts 0xFF e
  begun_end g =
      begun_with 0xFF e.condition g (omega arith) b.formed b.numbers b.few_clauses b.few_comparisons (λ z. absurd z)

  -- where an expression may end, it is well formed
  pub begun_formed : 0x31 ≤ l → T (expression_formed ts e) × T (condition_limited e.condition)
  unfolding expression_formed condition_limited
  begun_formed g =
      let used = b.some_used (omega arith) in
      let outputs = b.some_outputs g in
      let clauses = le→leb (length e.condition) 4 b.few_clauses in
      let each =
      all_both (λ c. leb (length c) 6) (all_of (λ a. against_limited a.right)) e.condition b.few_comparisons b.numbers in
      let declared = b.declared in
      let ascends = b.ascends in
      let in_scope = b.in_scope in
      let differ = b.differ in
      let formed = b.formed in
      (search yes_and depth 8, search yes_and)

-- ---- what each command leaves

-- with the tables as they are
with_tables_lem : (l d : ℕ) (q r : Bool) (j : Job) (x y : Expression) → Sound (record { last = l; in_query = q; job = j }) → 0x11 ≤ l → 0x20 ≤ d
    → (r ≡ false → y ≡ no_expression) → (r ≡ true → T (expression_formed j.tables x) × T (condition_limited x.condition))
    → (d ≡ 0xFF → r ≡ true) → Begun j.tables d (cond r y x)
    → Sound (record { last = d; in_query = r; job = record { tables = j.tables; extract = x; query = y } })
with_tables_lem l d q r j x y s g h w f c b = record {
  few_tables = s.few_tables;
  few_columns = s.few_columns;
  bounds = s.bounds;
  no_table = λ z. absurd (omega arith);
  opened = λ z. absurd (omega arith);
  filled = λ z. s.filled (omega arith);
  declaring = λ z. absurd (omega arith);
  waiting = w;
  finished = f;
  closed = c;
  begun = b;
}

-- a command in an expression
in_expression : (l d : ℕ) (q : Bool) (j : Job) (e : Expression) → Sound (record { last = l; in_query = q; job = j }) → 0x20 ≤ l → 0x30 ≤ d
    → d ≤ 0x42
    → Begun j.tables d e → Sound (record { last = d; in_query = q || eqb d 0x21; job = with_current q j e })
in_expression l d true j e s h f g b =
    with_tables_lem l d true true j j.extract e s (omega arith) (omega arith) (λ z. absurd (true≢false z)) s.finished (λ z. refl) b
in_expression l d false j e s h f g b =
    rw (ne_eqb d 0x21 (λ z. omega arith))
    (with_tables_lem l d false false j e j.query s (omega arith) (omega arith) s.waiting (λ z. absurd (false≢true z))
    (λ z. absurd (omega arith)) b)

module _ (st : State) (s : Sound st) where
  sound_table : T (follows st NextTable) → T (has_room st NextTable) → Sound (after 0x10 add_table st)
  sound_table f r =
      let (lo, hi) = among st.last 0 0x11 (0 ∷ 0x11 ∷ []) f tt in
      let (q, x) = s.declaring (omega arith) in
      rw q (record {
        few_tables = simp length-append (omega (arith, ltb→lt (length st.job.tables) 4 r));
        few_columns = rw (concat_more st.job.tables) s.few_columns;
        bounds = rw (concat_more st.job.tables) s.bounds;
        no_table = λ z. absurd (omega arith);
        opened = λ z. (st.job.tables, refl, each_filled (either st.last 0 0x11 f));
        filled = λ z. absurd (omega arith);
        declaring = λ z. (refl, x);
        waiting = λ z. s.waiting q;
        finished = λ z. absurd (false≢true z);
        closed = λ z. absurd (omega arith);
        begun = rw x (begun_none _ 0x10 (omega arith));
      })
    where
      each_filled : (st.last ≡ 0) ⊎ (st.last ≡ 0x11) → T (all_of (λ t. not (is_empty t)) st.job.tables)
      each_filled (inl z) = rw (s.no_table z) tt
      each_filled (inr z) = (s.filled (omega arith)).1

  sound_column : (lo hi : ℤ) → T (follows st NextColumn) → T (has_room st NextColumn) → T (in_range lo && in_range hi && le_z lo hi)
      → Sound (after 0x11 (add_column lo hi) st)
  sound_column lo hi f r i =
      let (l, h) = among st.last 0x10 0x11 (0x10 ∷ 0x11 ∷ []) f tt in
      let (q, x) = s.declaring (omega arith) in
      let (some, each) = filled_more (either st.last 0x10 0x11 f) in
      let columns = concat_last st.job.tables b some in
      rw q (record {
        few_tables = rw (length_last st.job.tables b) s.few_tables;
        few_columns = rw columns (simp length-append (omega (arith, ltb→lt (length (columns_of st.job.tables)) 16 r)));
        bounds =
            rw columns
            (all_snoc (λ b. in_range b.lo && in_range b.hi && le_z b.lo b.hi) (columns_of st.job.tables) b s.bounds i);
        no_table = λ z. absurd (omega arith);
        opened = λ z. absurd (omega arith);
        filled = λ z. (some_last st.job.tables b some, each);
        declaring = λ z. (refl, x);
        waiting = λ z. s.waiting q;
        finished = λ z. absurd (false≢true z);
        closed = λ z. absurd (omega arith);
        begun = rw x (begun_none _ 0x11 (omega arith));
      })
    where
      b : Bounds
      b = record { lo = lo; hi = hi }

      filled_more : (st.last ≡ 0x10) ⊎ (st.last ≡ 0x11)
          → T (not (is_empty st.job.tables)) × T (all_of (λ t. not (is_empty t)) (in_last st.job.tables b))
      filled_more (inl z) = let (ts, e, each) = s.opened z in rw e (some_snoc ts [], last_filled ts b each)
      filled_more (inr z) =
          let (some, each) = s.filled (omega arith) in
          (some, all_last (λ t. not (is_empty t)) st.job.tables b each (λ t. some_snoc (last_of st.job.tables) b))

  sound_extract : T (follows st ExtractBegins) → Sound (after 0x20 (mark 0x20) st)
  sound_extract f =
      let (lo, hi) = among st.last 0x11 0x11 (0x11 ∷ []) f tt in
      let (q, x) = s.declaring (omega arith) in
      rw q (with_tables_lem st.last 0x20 st.in_query false st.job st.job.extract st.job.query s lo (omega arith)
      (λ z. s.waiting q)
      (λ z. absurd (false≢true z)) (λ z. absurd (omega arith)) (rw x (begun_none _ 0x20 (omega arith))))

  sound_used : (t : ℕ) → T (follows st TableUsed) → T (ltb t (length st.job.tables)) → T (above_last (current st).used t)
      → Sound (after 0x30 (use_table t) st)
  sound_used t f d n =
      let (lo, hi) = among st.last 0x20 0x30 (0x20 ∷ 0x21 ∷ 0x30 ∷ []) f tt in
      in_expression st.last 0x30 st.in_query st.job _ s lo (omega arith) (omega arith)
      (begun_used st.job.tables st.last (current st) s.begun t (omega arith) d n)

  sound_output : (c : ℕ) → T (follows st OutputColumn) → T (in_scope st.job.tables (current st) c)
      → T (not (any_of (eqb c) (current st).outputs))
      → Sound (after 0x31 (add_output c) st)
  sound_output c f d n =
      let (lo, hi) = among st.last 0x30 0x31 (0x30 ∷ 0x31 ∷ []) f tt in
      in_expression st.last 0x31 st.in_query st.job _ s (omega arith) (omega arith) (omega arith)
      (begun_output st.job.tables st.last (current st) s.begun c lo (omega arith) d n)

  sound_clause : T (follows st NextClause) → T (has_room st NextClause) → Sound (after 0x40 add_clause st)
  sound_clause f r =
      let (lo, hi) = at_ending st.last f in
      in_expression st.last 0x40 st.in_query st.job _ s (omega arith) (omega arith) (omega arith)
      (begun_clause st.job.tables st.last (current st) s.begun lo r)

  sound_comparison : (d o l : ℕ) (r : Against) → 0x41 ≤ d → d ≤ 0x42 → T (follows st NumberCompared) → T (has_room st NumberCompared)
      → T (against_limited r) → T (in_scope st.job.tables (current st) l && against_in_scope st.job.tables (current st) r)
      → Sound (after d (add_comparison o l r) st)
  sound_comparison d o l r g h f m a n =
      let (lo, hi) = in_condition_lem st.last f in
      in_expression st.last d st.in_query st.job _ s (omega arith) (omega arith) h
      (begun_comparison st.job.tables st.last (current st) s.begun d (record { op = op_at o; left = l; right = r }) g f m n a)

-- the query begins where the extract may end
sound_query : (l : ℕ) (q : Bool) (j : Job) → Sound (record { last = l; in_query = q; job = j })
    → T (follows (record { last = l; in_query = q; job = j }) QueryBegins)
    → Sound (after 0x21 (mark 0x21) (record { last = l; in_query = q; job = j }))
sound_query l true j s f = absurd f
sound_query l false j s f =
    let (lo, hi) = at_ending l f in
    with_tables_lem l 0x21 false true j j.extract j.query s (omega arith) (omega arith) (λ z. absurd (true≢false z))
    (λ z. begun_formed j.tables l j.extract s.begun lo) (λ z. refl) (rw (s.waiting refl) (begun_none _ 0x21 (omega arith)))

-- the job ends where the query may end
sound_last : (l : ℕ) (q : Bool) (j : Job) → Sound (record { last = l; in_query = q; job = j })
    → T (follows (record { last = l; in_query = q; job = j }) End)
    → Sound (after 0xFF (mark 0xFF) (record { last = l; in_query = q; job = j }))
sound_last l false j s f = absurd f
sound_last l true j s f =
    let (lo, hi) = at_ending l f in
    with_tables_lem l 0xFF true true j j.extract j.query s (omega arith) (omega arith) (λ z. absurd (true≢false z)) s.finished
    (λ z. refl)
    (begun_end j.tables l j.query s.begun lo)

-- ---- the start, and one step

pub start_sound : Sound at_start
start_sound = record {
  few_tables = omega arith;
  few_columns = omega arith;
  bounds = tt;
  no_table = λ z. refl;
  opened = λ z. absurd (omega arith);
  filled = λ z. absurd (omega arith);
  declaring = λ z. (refl, refl);
  waiting = λ z. refl;
  finished = λ z. absurd (false≢true z);
  closed = λ z. absurd (omega arith);
  begun = begun_none [] 0 (omega arith);
}

module _ (s : List ℕ) (at at' : ℕ) (st st' : State) where
  -- a command that passed its checks
  given_sound : (c : Command) → Sound st → Given s at st at' st' c → Sound (after (number_of_command c) (entry_at c s at) st)
  given_sound NextTable h g = sound_table st h g.follow g.room
  given_sound NextColumn h g = sound_column st h _ _ g.follow g.room g.ranged
  given_sound ExtractBegins h g = sound_extract st h g.follow
  given_sound QueryBegins h g = sound_query st.last st.in_query st.job h g.follow
  given_sound TableUsed h g = sound_used st h _ g.follow g.named g.new
  given_sound OutputColumn h g = sound_output st h _ g.follow g.named g.new
  given_sound NextClause h g = sound_clause st h g.follow g.room
  given_sound NumberCompared h g =
      sound_comparison st h 0x41 (get_or s (at + 1) 0) _ (number (value_at 4 s (at + 3))) (omega arith) (omega arith)
      g.follow g.room g.ranged g.named
  given_sound ColumnCompared h g =
      sound_comparison st h 0x42 (get_or s (at + 1) 0) _ (column (get_or s (at + 3) 0)) (omega arith) (omega arith)
      g.follow g.room g.ranged g.named
  given_sound End h g = sound_last st.last st.in_query st.job h g.follow

  pub step_sound : Sound st → step_of s at st ≡ next at' st' → Sound st'
  step_sound h e = let (c, g) = step_given s at at' st st' e in rw (← g.state) (given_sound c h g)
