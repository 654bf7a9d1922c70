-- The first 600 bytes decide how a job is read: what is read takes up 579 at most. Assumes nothing.
use mathlib.Core.Path.{◌≡◌, refl}
use mathlib.Core.Bool.{Bool, true, false, cond}
use mathlib.Core.List.{List, [], ◌∷◌, ◌++◌, map}
use Rattle.std.specs.Prelude.{Option, None, Some}
use Prim.Native.Nat.{ℕ, zero, suc, ◌+◌, ◌*◌, ◌<◌, ◌≤◌}
use native.Mathlib.Nat.{suc-mul}
use native.Mathlib.Omega.{arith}
use lib.ListN.{length, get_or, take, drop, length-append}
use lib.Seq.{length-take-le, take-take, get_or-take}
use lib.Dec.{T, eqb, leb, leb→le}
use mir.Facts.{and_yes}
use borrow.Author.Tests.{lt-ltb, le-leb, ne_eqb}
use Rattle.layout.specs.Sound.{Begun, Sound}
use Rattle.base.specs.Lists.{all_of, flat_map}
use Rattle.base.proofs.Lists.{flat_map_append}
use Rattle.model.specs.Tables.{Table, Against, column, number, Clause, Condition, Expression, Job, columns_of}
use Rattle.words.specs.Compare.{number_of_op}
use Rattle.model.proofs.Formed.{Formed, Limited, is_formed, is_limited}
use Rattle.layout.specs.declared.Command.{Command}
use Rattle.layout.specs.declared.Command.TheVariants.{NextTable, NextColumn, ExtractBegins, QueryBegins, TableUsed, OutputColumn, NextClause, NumberCompared}
use Rattle.layout.specs.declared.Command.TheVariants.{ColumnCompared, End}
use Rattle.layout.specs.Commands.{command_of, operands, Entry, add_column, mark, use_table, add_output, add_comparison, entry_at}
use Rattle.layout.specs.Reading.{State, at_start, Step, next, stop, taken, if_listed, step_of, Reading, ended, onward, read_from, read_of}
use Rattle.layout.specs.Writing.{comparison_bytes, entry_bytes, table_entries, clause_entries, expression_entries}
use Rattle.layout.proofs.Given.{step_given}
use Rattle.layout.proofs.Keeps.{start_sound, step_sound}
use Rattle.layout.proofs.Rooms.{used_fit, outputs_fit}
use Rattle.layout.proofs.Entries.{so_far, step_more}

-- ---- how many bytes entries take up
abbrev size : List Entry → ℕ
size es = length (flat_map es entry_bytes)

size_append : (xs ys : List Entry) → size (xs ++ ys) ≡ size xs + size ys
size_append xs ys = rw (flat_map_append xs ys entry_bytes) (length-append (flat_map xs entry_bytes) (flat_map ys entry_bytes))

size_more : (xs : List Entry) (x : Entry) → size (xs ++ x ∷ []) ≡ size xs + length (entry_bytes x)
size_more xs x = rw (size_append xs (x ∷ []), length-append (entry_bytes x) []) (omega arith)

-- at most k bytes for each element
size_map : {A : Type 0} (f : A → Entry) (k : ℕ) → ((x : A) → length (entry_bytes (f x)) ≤ k) → (xs : List A)
    → size (map f xs) ≤ length xs * k
size_map f k h [] = omega arith
size_map f k h (x ∷ xs) =
    rw (length-append (entry_bytes (f x)) (flat_map (map f xs) entry_bytes), suc-mul (length xs) k) (omega (arith, h x, size_map f k h xs))

tables_size : (ts : List Table) → size (flat_map ts table_entries) ≤ length ts + length (columns_of ts) * 9
tables_size [] = omega arith
tables_size (t ∷ ts) =
    rw (size_append (table_entries t) (flat_map ts table_entries), length-append t (columns_of ts))
    (omega (arith, size_map (λ b. add_column b.lo b.hi) 9 (λ b. omega arith) t, tables_size ts))

pub side_most : (o l : ℕ) (r : Against) → length (comparison_bytes o l r) ≤ 7
side_most o l (column c) = omega arith
side_most o l (number v) = omega arith

clause_size : (c : Clause) → length c ≤ 6 → size (clause_entries c) ≤ 43
clause_size c h =
    omega (
      arith,
      size_map (λ k. add_comparison (number_of_op k.op) k.left k.right) 7
          (λ k. side_most (number_of_op k.op) k.left k.right) c,
    )

condition_size : (k : Condition) → T (all_of (λ c. leb (length c) 6) k) → size (flat_map k clause_entries) ≤ length k * 43
condition_size [] t = omega arith
condition_size (c ∷ k) t =
    let (h, l) = and_yes (leb (length c) 6) (all_of (λ x. leb (length x) 6) k) t in
    rw (size_append (clause_entries c) (flat_map k clause_entries)) (omega (arith, clause_size c (leb→le (length c) 6 h), condition_size k l))

-- ---- how many of them what has been read takes up

-- a whole expression is one of which all has been read
formed_begun : (ts : List Table) (e : Expression) → Formed ts e → Limited e.condition → Begun ts 0xFF e
formed_begun ts e f l = record {
  declared = f.declared;
  ascends = f.ascends;
  in_scope = f.outputs;
  differ = f.differ;
  formed = f.condition;
  numbers = l.numbers;
  few_clauses = l.few_clauses;
  few_comparisons = l.few_comparisons;
  no_used = λ k. absurd (omega arith);
  some_used = λ k. f.some_used;
  no_outputs = λ k. absurd (omega arith);
  some_outputs = λ k. f.some_outputs;
  no_clauses = λ k. absurd (omega arith);
  some_clauses = λ t. absurd t;
}

begun_size : {ts : List Table} {l : ℕ} {e : Expression} → length ts ≤ 4 → length (columns_of ts) ≤ 16 → Begun ts l e
    → size (expression_entries e) ≤ 212
unfolding expression_entries
begun_size {e = e} few columns b =
    let used = map use_table e.used in
    let outputs = map add_output e.outputs in
    let clauses = flat_map e.condition clause_entries in
    rw (size_append (used ++ outputs) clauses, size_append used outputs)
    (omega (
      arith,
      size_map use_table 2 (λ t. omega arith) e.used,
      size_map add_output 2 (λ c. omega arith) e.outputs,
      condition_size e.condition b.few_comparisons,
      b.few_clauses,
      used_fit b,
      outputs_fit b,
    ))

-- the extract and the query
both_size : (l : ℕ) (q : Bool) (j : Job) → Sound (record { last = l; in_query = q; job = j })
    → (size (expression_entries j.extract) ≤ 212) × (size (expression_entries j.query) ≤ 212)
unfolding expression_entries
both_size l true j s =
    let (t, k) = s.finished refl in
    let extract = formed_begun j.tables j.extract (is_formed j.tables j.extract t) (is_limited j.extract.condition k) in
    (begun_size s.few_tables s.few_columns extract, begun_size s.few_tables s.few_columns s.begun)
both_size l false j s = (begun_size s.few_tables s.few_columns s.begun, rw (s.waiting refl) (omega arith))

-- a mark with entries behind it, or nothing
part_size : (b : Bool) (m n : ℕ) (es : List Entry) → size es ≤ n → size (cond b (mark m ∷ es) []) ≤ n + 1
part_size true m n es h = omega arith
part_size false m n es h = omega arith

so_far_size : (st : State) → Sound st → size (so_far st) ≤ 575
unfolding so_far
so_far_size st s =
    let (x, y) = both_size st.last st.in_query st.job s in
    rw (size_append _ _, size_append _ _, size_append _ _)
    (omega (
      arith,
      tables_size st.job.tables,
      s.few_tables,
      s.few_columns,
      part_size (leb 0x20 st.last) 0x20 212 (expression_entries st.job.extract) x,
      part_size st.in_query 0x21 212 (expression_entries st.job.query) y,
      part_size (eqb st.last 0xFF) 0xFF 0 [] (omega arith),
    ))

-- ---- the place of the next command, behind the start and what has been read
abbrev Reached : ℕ → State → Type 0
Reached at st = Sound st × (at ≡ 4 + size (so_far st))

reached_most : {at : ℕ} {st : State} → Reached at st → at ≤ 579
reached_most {at} {st} (h, e) = omega (arith, so_far_size st h)

start_reached : Reached 4 at_start
unfolding so_far
start_reached = (start_sound, refl)

entry_size : (c : Command) (s : List ℕ) (at : ℕ) → length (entry_bytes (entry_at c s at)) ≡ 1 + operands c
entry_size c s at = grind arith

-- a command goes forward
step_reached : (s : List ℕ) (at at' : ℕ) (st st' : State) → Reached at st → step_of s at st ≡ next at' st' → Reached at' st' × (at < at')
step_reached s at at' st st' (h, m) e =
    let (c, g) = step_given s at at' st st' e in
    let place = g.place in (
      (
        step_sound s at at' st st' h e,
        rw (step_more s at at' st st' c h g, size_more (so_far st) (entry_at c s at), entry_size c s at) (omega arith),
      ),
      omega arith,
    )

-- ---- the first n bytes
value_within : (w i n : ℕ) (l : List ℕ) → i + w ≤ n → take w (drop i (take n l)) ≡ take w (drop i l)
value_within w zero n l h = take-take w n l (omega arith)
value_within w (suc i) zero l h = absurd (omega arith)
value_within w (suc i) (suc n) [] h = refl
value_within w (suc i) (suc n) (x ∷ l) h = value_within w i n l (omega arith)

few_operands : (c : Command) → operands c ≤ 8
few_operands c = grind arith

listed_same : (at : ℕ) (o : Option Command) (f g : Command → Step) → ((c : Command) → f c ≡ g c) → if_listed at o f ≡ if_listed at o g
listed_same at None f g h = refl
listed_same at (Some c) f g h = h c

module _ (n : ℕ) (s : List ℕ) (enough : 588 ≤ n) (long : n ≤ length s) where
  entry_same : (c : Command) (at : ℕ) → at ≤ 579 → entry_at c (take n s) at ≡ entry_at c s at
  entry_same NextTable at h = refl
  entry_same NextColumn at h = rw (value_within 4 (at + 1) n s (omega arith), value_within 4 (at + 5) n s (omega arith))
  entry_same ExtractBegins at h = refl
  entry_same QueryBegins at h = refl
  entry_same TableUsed at h = rw (get_or-take n s (at + 1) 0 (omega arith))
  entry_same OutputColumn at h = rw (get_or-take n s (at + 1) 0 (omega arith))
  entry_same NextClause at h = refl
  entry_same NumberCompared at h =
      rw (get_or-take n s (at + 1) 0 (omega arith), get_or-take n s (at + 2) 0 (omega arith), value_within 4 (at + 3) n s (omega arith))
  entry_same ColumnCompared at h =
      rw (get_or-take n s (at + 1) 0 (omega arith), get_or-take n s (at + 2) 0 (omega arith), get_or-take n s (at + 3) 0 (omega arith))
  entry_same End at h = refl

  first_length : length (take n s) ≡ n
  first_length = length-take-le n s long

  taken_same : (at : ℕ) (st : State) (b : ℕ) (c : Command) → at ≤ 579 → taken (take n s) at st b c ≡ taken s at st b c
  unfolding taken
  taken_same at st b c h =
      let few = few_operands c in
      rw (
        first_length,
        le-leb (at + 1 + operands c) n (omega arith),
        le-leb (at + 1 + operands c) (length s) (omega arith),
        entry_same c at h,
      )

  step_same : (at : ℕ) (st : State) → at ≤ 579 → step_of (take n s) at st ≡ step_of s at st
  unfolding step_of
  step_same at st h =
      rw (first_length, lt-ltb at n (omega arith), lt-ltb at (length s) (omega arith), get_or-take n s at 0 (omega arith))
      (listed_same at (command_of (get_or s at 0)) _ _ (λ c. taken_same at st (get_or s at 0) c h))

  -- neither list of bytes ends there
  ended_same : (at : ℕ) (st : State) → at ≤ 579 → ended (take n s) at st ≡ ended s at st
  ended_same at st h = rw (first_length, ne_eqb at n (λ e. omega arith), ne_eqb at (length s) (λ e. omega arith))

  onward_same : (x : Step) (f g : ℕ → State → Reading)
      → ((at : ℕ) (st : State) → x ≡ next at st → (at ≤ 579) × (f at st ≡ g at st)) → onward (take n s) x f ≡ onward s x g
  onward_same (stop m at) f g h = refl
  onward_same (next at st) f g h = let (k, e) = h at st refl in rw (ended_same at st k, e)

  -- with more commands allowed than there can be
  from_same : (k m at : ℕ) (st : State) → Reached at st → 580 ≤ k + at → 580 ≤ m + at → read_from k (take n s) at st ≡ read_from m s at st
  from_same zero m at st r f g = absurd (omega (arith, reached_most r))
  from_same (suc k) zero at st r f g = absurd (omega (arith, reached_most r))
  from_same (suc k) (suc m) at st r f g =
      rw (step_same at st (reached_most r))
      (onward_same (step_of s at st) (read_from k (take n s)) (read_from m s)
      (λ at' st' e. let (q, p) = step_reached s at at' st st' r e in (reached_most q, from_same k m at' st' q (omega arith) (omega arith))))

  first_enough : read_of (take n s) ≡ read_of s
  unfolding read_of
  first_enough =
      rw (first_length, take-take 4 n s (omega arith), from_same n (length s) 4 at_start start_reached (omega arith) (omega arith))

pub read_enough : (s : List ℕ) → 600 ≤ length s → read_of (take 600 s) ≡ read_of s
read_enough s h = first_enough 600 s (omega arith) h
