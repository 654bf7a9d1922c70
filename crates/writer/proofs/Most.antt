-- No record's bytes are more than 579: a column is of one table at most. Assumes nothing.
use mathlib.Core.Path.{◌≡◌, refl}
use mathlib.Core.Bool.{cond}
use mathlib.Core.List.{List, [], ◌∷◌, ◌++◌}
use Prim.Native.Nat.{ℕ, zero, suc, ◌+◌, ◌*◌, ◌≤◌}
use native.Mathlib.Nat.{suc-mul}
use native.Mathlib.Omega.{arith}
use lib.ListN.{length, take, drop, length-append, length-take}
use lib.Dec.{eqb}
use borrow.Author.Tests.{ne_eqb}
use Rattle.base.specs.Lists.{flat_map}
use Rattle.base.specs.Bytes.{Room, Puts}
use Rattle.base.specs.declared.Output.{Output}
use Rattle.base.proofs.Bytes.{put_first, room_first, room_next}
use Rattle.words.specs.Word.{encoded}
use Rattle.words.specs.Compare.{op_at, number_of_op}
use Rattle.job.specs.declared.Column.{Column}
use Rattle.job.specs.declared.Comparison.{Comparison}
use Rattle.job.specs.declared.Clause.{Clause}
use Rattle.job.specs.declared.Expression.{Expression}
use Rattle.job.specs.declared.Columns.{Columns}
use Rattle.job.specs.declared.Job.{Job}
use Rattle.job.specs.Meaning.{side_of, table_numbers, meaning_of}
use Rattle.layout.specs.Commands.{start_bytes}
use Rattle.layout.specs.Writing.{job_bytes}
use Rattle.layout.proofs.Enough.{side_most}
use Rattle.writer.specs.Parts.{columns_in, column_in, table_bytes, tables_bytes, each_bytes, used_bytes, outputs_bytes}
use Rattle.writer.specs.Parts.{comparison_in, clause_bytes, condition_bytes, expression_bytes}
use Rattle.job.proofs.Records.{Sixes, SizedExpression, Sized}
use Rattle.writer.proofs.Meant.{to_tables, to_extract, to_query, record_bytes, meant}

module _ {A : Type 0} (f : A → List ℕ) where
  -- at most k bytes for each element
  each_most : (k : ℕ) → ((x : A) → length (f x) ≤ k) → (xs : List A) → length (flat_map xs f) ≤ length xs * k
  each_most k h [] = omega arith
  each_most k h (x ∷ xs) = rw (length-append (f x) (flat_map xs f), suc-mul (length xs) k) (omega (arith, h x, each_most k h xs))

  -- fewer elements have no more bytes
  fewer : (n : ℕ) (xs : List A) → length (flat_map (take n xs) f) ≤ length (flat_map xs f)
  fewer zero xs = omega arith
  fewer (suc n) [] = omega arith
  fewer (suc n) (x ∷ xs) = rw (length-append (f x) (flat_map (take n xs) f), length-append (f x) (flat_map xs f)) (omega (arith, fewer n xs))

-- ---- tables

-- a column's bytes b stand in its own table alone
one_table : (t : ℕ) (b : List ℕ) → length b ≡ 9
    → length (cond (eqb t 0) b []) + length (cond (eqb t 1) b []) + length (cond (eqb t 2) b []) + length (cond (eqb t 3) b []) ≤ 9
one_table zero b h = omega arith
one_table (suc zero) b h = omega arith
one_table (suc (suc zero)) b h = omega arith
one_table (suc (suc (suc zero))) b h = omega arith
one_table (suc (suc (suc (suc t)))) b h =
    let n = suc (suc (suc (suc t))) in
    rw (ne_eqb n 0 (λ e. omega arith), ne_eqb n 1 (λ e. omega arith), ne_eqb n 2 (λ e. omega arith), ne_eqb n 3 (λ e. omega arith))
    (omega arith)

columns_most : (cs : List Column)
    → length (flat_map cs (column_in 0)) + length (flat_map cs (column_in 1)) + length (flat_map cs (column_in 2))
    + length (flat_map cs (column_in 3)) ≤ length cs * 9
columns_most [] = omega arith
columns_most (c ∷ cs) =
    rw (
      length-append (column_in 0 c) (flat_map cs (column_in 0)),
      length-append (column_in 1 c) (flat_map cs (column_in 1)),
      length-append (column_in 2 c) (flat_map cs (column_in 2)),
      length-append (column_in 3 c) (flat_map cs (column_in 3)),
    )
    (omega (arith, one_table c.table (0x11 ∷ encoded 4 c.bounds.lo ++ encoded 4 c.bounds.hi) refl, columns_most cs))

four : (f : ℕ → List ℕ) → length (flat_map table_numbers f) ≡ length (f 0) + length (f 1) + length (f 2) + length (f 3)
four f = simp length-append (omega arith)

all_tables : (cs : List Column) → length (flat_map table_numbers (table_bytes cs)) ≤ length cs * 9 + 4
unfolding table_bytes
all_tables cs = rw (four (table_bytes cs)) (omega (arith, columns_most cs))

tables_most : (k : Columns) → length k.columns ≡ 16 → length (tables_bytes k) ≤ 148
unfolding tables_bytes
tables_most k h =
    let cs = columns_in k in
    omega (arith, fewer (table_bytes cs) k.tables table_numbers, all_tables cs, length-take k.width k.columns)

-- ---- expressions
comparison_most : (k : Comparison) → length (comparison_in k) ≤ 7
comparison_most k = side_most (number_of_op (op_at k.op)) k.left (side_of k.right k.number)

clause_most : (c : Clause) → length c.comparisons ≡ 6 → length (clause_bytes c) ≤ 43
unfolding clause_bytes
clause_most c h =
    omega (arith, each_most comparison_in 7 comparison_most (take c.size c.comparisons), length-take c.size c.comparisons)

clauses_most : (n : ℕ) (cs : List Clause) → Sixes cs → length (flat_map (take n cs) clause_bytes) ≤ length cs * 43
clauses_most zero cs h = omega arith
clauses_most (suc n) [] h = omega arith
clauses_most (suc n) (c ∷ cs) h =
    rw (length-append (clause_bytes c) (flat_map (take n cs) clause_bytes)) (omega (arith, clause_most c h.0, clauses_most n cs h.1))

pairs_most : (b n : ℕ) (l : List ℕ) → length (each_bytes b (take n l)) ≤ length l * 2
pairs_most b n l = omega (arith, each_most (λ x. b ∷ x ∷ []) 2 (λ x. omega arith) (take n l), length-take n l)

expression_most : (e : Expression) → SizedExpression e → length (expression_bytes e) ≤ 212
unfolding expression_bytes condition_bytes
expression_most e s =
    rw (length-append (used_bytes e ++ outputs_bytes e) (condition_bytes e.condition), length-append (used_bytes e) (outputs_bytes e))
    (omega (
      arith,
      pairs_most 0x30 e.tables e.used,
      pairs_most 0x31 e.width e.outputs,
      clauses_most e.condition.size e.condition.clauses s.condition.comparisons,
    ))

most : (r : Job) → Sized r → length (record_bytes r) ≤ 579
unfolding record_bytes
most r s =
    rw (
      length-append (to_query r) (0xFF ∷ []),
      length-append (to_extract r) (0x21 ∷ expression_bytes r.query),
      length-append (to_tables r) (0x20 ∷ expression_bytes r.extract),
    )
    (omega (arith, tables_most r.declared s.columns, expression_most r.extract s.extract, expression_most r.query s.query))

-- ---- the whole: there is room for each part behind those before it, and in the end the job's bytes are there
pub written : (r : Job) {old new : Output} {lent : List ℕ} → old.at ≡ 0 → (old.bytes.ghost_name ≡ new.bytes.ghost_name → lent ≡ new.bytes.now)
    → Puts old new (record_bytes r)
    → (new.at ≡ length (job_bytes (meaning_of r))) × (lent ≡ job_bytes (meaning_of r) ++ drop (length (job_bytes (meaning_of r))) old.bytes.now)
written r none back p = rw (meant r) (put_first (record_bytes r) none back p)

module _ (r : Job) (s : Sized r) {old : Output} (none : old.at ≡ 0) (h : 579 ≤ length old.bytes.now) where
  room_query_end : Room old (to_query r ++ 0xFF ∷ [])
  unfolding record_bytes
  room_query_end = record { room = omega (arith, none, most r s) }

  room_to_query : Room old (to_query r)
  room_to_query = room_first (to_query r) (0xFF ∷ []) room_query_end

  room_to_extract : Room old (to_extract r)
  room_to_extract = room_first (to_extract r) (0x21 ∷ expression_bytes r.query) room_to_query

  module _ {new : Output} where
    pub room_tables : Puts old new start_bytes → Room new (tables_bytes r.declared)
    room_tables = room_next start_bytes (tables_bytes r.declared) (room_first (to_tables r) (0x20 ∷ expression_bytes r.extract) room_to_extract)

    pub room_extract : Puts old new (to_tables r) → Room new (0x20 ∷ expression_bytes r.extract)
    room_extract = room_next (to_tables r) (0x20 ∷ expression_bytes r.extract) room_to_extract

    pub room_query : Puts old new (to_extract r) → Room new (0x21 ∷ expression_bytes r.query)
    room_query = room_next (to_extract r) (0x21 ∷ expression_bytes r.query) room_to_query

    pub room_end : Puts old new (to_query r) → Room new (0xFF ∷ [])
    room_end = room_next (to_query r) (0xFF ∷ []) room_query_end
