-- Entries at their places among bytes: each is taken as written where the checks are passed, and so is a list of them. Assumes nothing.
use mathlib.Core.Path.{◌≡◌, refl, sym, ap, ◌∙◌}
use mathlib.Core.Bool.{false}
use mathlib.Core.List.{List, [], ◌∷◌, ◌++◌, append_assoc}
use Rattle.std.specs.Prelude.{Some}
use Prim.Native.Nat.{ℕ, zero, suc, ◌+◌, ◌≤◌, ◌<◌}
use native.Mathlib.Omega.{arith}
use lib.ListN.{length, get_or, take, drop, length-append}
use lib.Seq.{drop-append-add, get_or-append-add, get_or_at}
use lib.IntN.{ℤ}
use lib.Signed.{mag}
use lib.Dec.{T, eqb}
use borrow.Author.Tests.{lt-ltb, le-leb, eq-eqb}
use Rattle.base.specs.Lists.{flat_map}
use Rattle.base.specs.Bytes.{Bytes}
use Rattle.base.proofs.Bytes.{bytes_none, bytes_more, bytes_append}
use Rattle.base.proofs.Tests.{T-is}
use Rattle.words.specs.Word.{sign_bit, unsigned_of, encoded, value_at}
use Rattle.words.proofs.Words.{bytes_are, decode_encode}
use Rattle.model.specs.Tables.{column, number}
use Rattle.layout.specs.declared.Command.{Command}
use Rattle.layout.specs.declared.Command.TheVariants.{NextTable, NextColumn, ExtractBegins, QueryBegins, TableUsed, OutputColumn, NextClause, NumberCompared}
use Rattle.layout.specs.declared.Command.TheVariants.{ColumnCompared, End}
use Rattle.layout.specs.Commands.{command_of, operands, Entry, add_table, add_column, mark, use_table, add_output, add_clause, add_comparison, entry_at}
use Rattle.layout.specs.Reading.{State, current, follows, has_room, in_ranges, op_known, declared, is_new, after, next, taken, step_of, accepted, read_from}
use Rattle.layout.specs.Writing.{entry_bytes}

-- ---- the bytes of an entry: the command's, and as many more as it has operand bytes; wherever they stand, the entry is read off them
pub record Spelled (c : Command) (b : ℕ) (e : Entry) : Type 0 where
  pub rest : List ℕ
  pub spelt : entry_bytes e ≡ b ∷ rest
  pub listed : command_of b ≡ Some c
  pub size : length rest ≡ operands c
  pub byte : b < 256
  pub bytes : Bytes rest
  pub read : (pre post : List ℕ) → entry_at c (pre ++ (entry_bytes e ++ post)) (length pre) ≡ e

-- a command without operands
alone : {c : Command} {b : ℕ} (e : Entry) → entry_bytes e ≡ b ∷ [] → command_of b ≡ Some c → 0 ≡ operands c → b < 256
    → ((s : List ℕ) (at : ℕ) → entry_at c s at ≡ e) → Spelled c b e
alone e w l z h r = record { rest = []; spelt = w; listed = l; size = z; byte = h; bytes = bytes_none; read = λ pre post. r _ _ }

pub spelled_table : Spelled NextTable 0x10 add_table
unfolding command_of
spelled_table = alone add_table refl refl refl (omega arith) (λ s at. refl)

pub spelled_extract : Spelled ExtractBegins 0x20 (mark 0x20)
unfolding command_of
spelled_extract = alone (mark 0x20) refl refl refl (omega arith) (λ s at. refl)

pub spelled_query : Spelled QueryBegins 0x21 (mark 0x21)
unfolding command_of
spelled_query = alone (mark 0x21) refl refl refl (omega arith) (λ s at. refl)

pub spelled_clause : Spelled NextClause 0x40 add_clause
unfolding command_of
spelled_clause = alone add_clause refl refl refl (omega arith) (λ s at. refl)

pub spelled_end : Spelled End 0xFF (mark 0xFF)
unfolding command_of
spelled_end = alone (mark 0xFF) refl refl refl (omega arith) (λ s at. refl)

-- a command with a number of one byte
numbered : {c : Command} {b : ℕ} (f : ℕ → Entry) (n : ℕ) → entry_bytes (f n) ≡ b ∷ n ∷ [] → command_of b ≡ Some c → 1 ≡ operands c → b < 256
    → ((s : List ℕ) (at : ℕ) → entry_at c s at ≡ f (get_or s (at + 1) 0)) → n < 256 → Spelled c b (f n)
numbered {b = b} f n w l z h r k = record {
  rest = n ∷ [];
  spelt = w;
  listed = l;
  size = z;
  byte = h;
  bytes = bytes_more n [] k bytes_none;
  read = λ pre post. rw (w, r) (ap f (get_or-append-add pre (b ∷ n ∷ post) 1 0));
}

pub spelled_used : (t : ℕ) → t < 256 → Spelled TableUsed 0x30 (use_table t)
unfolding command_of
spelled_used t = numbered use_table t refl refl refl (omega arith) (λ s at. refl)

pub spelled_output : (c : ℕ) → c < 256 → Spelled OutputColumn 0x31 (add_output c)
unfolding command_of
spelled_output c = numbered add_output c refl refl refl (omega arith) (λ s at. refl)

-- values of four bytes
encoded_bytes : (v : ℤ) → Bytes (encoded 4 v)
encoded_bytes v = bytes_are 4 (unsigned_of 4 v)

value_past : (pre s : List ℕ) (n : ℕ) (v : ℤ) → mag v < sign_bit 4 → take 4 (drop n s) ≡ encoded 4 v
    → value_at 4 (pre ++ s) (length pre + n) ≡ v
value_past pre s n v h e = rw (drop-append-add pre s n, e) (decode_encode 4 v h)

pub spelled_column : (lo hi : ℤ) → mag lo < sign_bit 4 → mag hi < sign_bit 4 → Spelled NextColumn 0x11 (add_column lo hi)
unfolding command_of
spelled_column lo hi h k = record {
  rest = encoded 4 lo ++ encoded 4 hi;
  spelt = refl;
  listed = refl;
  size = refl;
  byte = omega arith;
  bytes = bytes_append (encoded 4 lo) (encoded 4 hi) (encoded_bytes lo) (encoded_bytes hi);
  read = λ pre post. rw (value_past pre _ 1 lo h refl, value_past pre _ 5 hi k refl);
}

pub spelled_against : (o l : ℕ) (v : ℤ) → o < 256 → l < 256 → mag v < sign_bit 4 → Spelled NumberCompared 0x41 (add_comparison o l (number v))
unfolding command_of
spelled_against o l v h k f = record {
  rest = o ∷ l ∷ encoded 4 v;
  spelt = refl;
  listed = refl;
  size = refl;
  byte = omega arith;
  bytes = bytes_more o (l ∷ encoded 4 v) h (bytes_more l (encoded 4 v) k (encoded_bytes v));
  read = λ pre post. rw (get_or-append-add pre _ 1 0, get_or-append-add pre _ 2 0, value_past pre _ 3 v f refl);
}

pub spelled_columns : (o l r : ℕ) → o < 256 → l < 256 → r < 256 → Spelled ColumnCompared 0x42 (add_comparison o l (column r))
unfolding command_of
spelled_columns o l r h k f = record {
  rest = o ∷ l ∷ r ∷ [];
  spelt = refl;
  listed = refl;
  size = refl;
  byte = omega arith;
  bytes = bytes_more o (l ∷ r ∷ []) h (bytes_more l (r ∷ []) k (bytes_more r [] f bytes_none));
  read = λ pre post. rw (get_or-append-add pre _ 1 0, get_or-append-add pre _ 2 0, get_or-append-add pre _ 3 0);
}

-- ---- one entry
pub record Legal (st : State) (c : Command) (e : Entry) : Type 0 where
  pub order : T (follows st c)
  pub room : T (has_room st c)
  pub range : T (in_ranges e)
  pub op : T (op_known e)
  pub named : T (declared st.job.tables (current st) e)
  pub fresh : T (is_new (current st) e)

step_taken : (s : List ℕ) (at : ℕ) (st : State) (b : ℕ) (c : Command) (e : Entry) → at + 1 + operands c ≤ length s
    → get_or s at 0 ≡ b → command_of b ≡ Some c → entry_at c s at ≡ e → Legal st c e
    → step_of s at st ≡ next (at + 1 + operands c) (after b e st)
unfolding step_of taken
step_taken s at st b c e fits g l r h =
    rw (
      lt-ltb at (length s) (omega arith),
      g,
      l,
      T-is (follows st c) h.order,
      T-is (has_room st c) h.room,
      le-leb (at + 1 + operands c) (length s) fits,
      r,
      T-is (in_ranges e) h.range,
      T-is (op_known e) h.op,
      T-is (declared st.job.tables (current st) e) h.named,
      T-is (is_new (current st) e) h.fresh,
    )

step_spelled : {c : Command} {b : ℕ} {e : Entry} {st : State} → Spelled c b e → Legal st c e → (s pre post : List ℕ) (at : ℕ)
    → s ≡ pre ++ (entry_bytes e ++ post) → length pre ≡ at → step_of s at st ≡ next (at + length (entry_bytes e)) (after b e st)
step_spelled {c} {b} {e} {st} w l s pre post at q h =
    let size : at + 1 + operands c ≡ at + length (entry_bytes e) = rw w.spelt (omega (arith, w.size)) in
    let long : length s ≡ at + (length (entry_bytes e) + length post) =
    rw (q, length-append pre (entry_bytes e ++ post), length-append (entry_bytes e) post, h) in
    let first : get_or s at 0 ≡ b = rw (q, w.spelt) (get_or_at pre b (w.rest ++ post) 0 at h) in
    let read : entry_at c s at ≡ e = rw (q, ← h) (w.read pre post) in
    step_taken s at st b c e (omega arith) first w.listed read l ∙ ap (λ n. next n (after b e st)) size

-- ---- entries, one after the other, up to the end of the job
pub data Run : State → List Entry → State → Type 0 where
  done : {st : State} → Run st [] st
  then : {st end : State} {c : Command} {b : ℕ} {e : Entry} {es : List Entry}
      → Spelled c b e → eqb b 0xFF ≡ false → Legal st c e → Run (after b e st) es end → Run st (e ∷ es) end

pub run_one : {st end : State} {c : Command} {b : ℕ} {e : Entry}
    → Spelled c b e → eqb b 0xFF ≡ false → Legal st c e → after b e st ≡ end → Run st (e ∷ []) end
run_one w o l q = rw (← q) (then w o l done)

pub run_append : {st mid end : State} {xs ys : List Entry} → Run st xs mid → Run mid ys end → Run st (xs ++ ys) end
run_append done r = r
run_append (then s n l q) r = then s n l (run_append q r)

pub run_bytes : {st end : State} {es : List Entry} → Run st es end → Bytes (flat_map es entry_bytes)
run_bytes done = bytes_none
run_bytes (then {b = b} {e = e} {es = es} s n l r) =
    bytes_append (entry_bytes e) (flat_map es entry_bytes) (rw s.spelt (bytes_more b s.rest s.byte s.bytes)) (run_bytes r)

-- each entry has a byte
pub run_length : {st end : State} {es : List Entry} → Run st es end → length es ≤ length (flat_map es entry_bytes)
run_length done = omega arith
run_length (then {e = e} {es = es} s n l r) =
    rw (length-append (entry_bytes e) (flat_map es entry_bytes), s.spelt) (omega (arith, run_length r))

-- with the end behind them, they are read
pub run_accepted : {st end : State} {es : List Entry} → Run st es end → Legal end End (mark 0xFF) → (s pre : List ℕ) (at n : ℕ)
    → s ≡ pre ++ (flat_map es entry_bytes ++ 0xFF ∷ []) → length pre ≡ at → length es < n → read_from n s at st ≡ accepted end.job
run_accepted r l s pre at zero q h f = absurd (omega arith)
run_accepted done l s pre at (suc n) q h f =
    let long : length s ≡ at + 1 = rw (q, length-append pre (0xFF ∷ []), h) in
    rw (step_spelled spelled_end l s pre [] at q h, eq-eqb (at + 1) (length s) (sym long))
run_accepted {st = st} (then {b = b} {e = e} {es = es} w o k r) l s pre at (suc n) q h f =
    let F = flat_map es entry_bytes in
    let split : pre ++ (entry_bytes e ++ F ++ 0xFF ∷ []) ≡ pre ++ entry_bytes e ++ (F ++ 0xFF ∷ []) = simp append_assoc in
    let here : s ≡ pre ++ (entry_bytes e ++ (F ++ 0xFF ∷ [])) = q ∙ simp append_assoc in
    rw (step_spelled w k s pre (F ++ 0xFF ∷ []) at here h, o)
    (run_accepted {st = after b e st} r l s (pre ++ entry_bytes e) (at + length (entry_bytes e)) n (q ∙ split) (rw (length-append pre (entry_bytes e), h))
    (omega arith))
