-- The bytes of the job that a record means are those of the record's parts, one after the other. Assumes nothing.
use mathlib.Core.Path.{◌≡◌, refl, ap, ◌∙◌}
use mathlib.Core.Bool.{Bool, true, false, cond}
use mathlib.Core.List.{List, [], ◌∷◌, ◌++◌, map}
use Prim.Native.Nat.{ℕ}
use lib.ListN.{take}
use lib.Dec.{eqb}
use Rattle.base.specs.Lists.{filter, flat_map}
use Rattle.base.proofs.Lists.{flat_map_append, flat_map_map}
use Rattle.words.specs.Word.{encoded}
use Rattle.words.specs.Compare.{number_of_op}
use Rattle.job.specs.declared.Column.{Column}
use Rattle.job.specs.declared.Comparison.{Comparison}
use Rattle.job.specs.declared.Clause.{Clause}
use Rattle.job.specs.declared.Expression.{Expression}
use Rattle.job.specs.declared.Job.{Job}
use Rattle.job.specs.Meaning.{comparison_of, clause_of, expression_of, bounds_of, table_in, table_numbers, job_of, meaning_of}
use Rattle.layout.specs.Commands.{start_bytes, add_column, mark, use_table, add_output, add_comparison}
use Rattle.layout.specs.Writing.{entry_bytes, table_entries, clause_entries, expression_entries, entries_of, job_bytes}
use Rattle.writer.specs.Parts.{columns_in, column_in, table_bytes, tables_bytes, comparison_in, clause_bytes, condition_bytes, expression_bytes}

-- the parts of a record, in order: up to the tables, the extract, the query, the end
abbrev pub to_tables : Job → List ℕ
to_tables r = start_bytes ++ tables_bytes r.declared

abbrev pub to_extract : Job → List ℕ
to_extract r = to_tables r ++ (0x20 ∷ expression_bytes r.extract)

abbrev pub to_query : Job → List ℕ
to_query r = to_extract r ++ (0x21 ∷ expression_bytes r.query)

unfoldable pub record_bytes : Job → List ℕ
record_bytes r = to_query r ++ 0xFF ∷ []

-- ---- bytes of entries
flat_two : {A B : Type 0} (f : A → List B) (xs ys : List A) {us vs : List B} → flat_map xs f ≡ us → flat_map ys f ≡ vs
    → flat_map (xs ++ ys) f ≡ us ++ vs
flat_two f xs ys d e = flat_map_append xs ys f ∙ rw (d, e)

-- entries for each element, and the bytes of each entry
flat_parts : {A B C D : Type 0} (f : A → B) (g : B → List C) (h : C → List D) (k : A → List D)
    → ((x : A) → flat_map (g (f x)) h ≡ k x) → (xs : List A) → flat_map (flat_map (map f xs) g) h ≡ flat_map xs k
flat_parts f g h k e [] = refl
flat_parts f g h k e (x ∷ xs) = flat_two h (g (f x)) (flat_map (map f xs) g) (e x) (flat_parts f g h k e xs)

-- ---- part by part
columns_meant : (t : ℕ) (cs : List Column)
    → flat_map (map (λ b. add_column b.lo b.hi) (table_in cs t)) entry_bytes ≡ flat_map cs (column_in t)
columns_meant t [] = refl
columns_meant t (c ∷ cs) = go (eqb c.table t) (columns_meant t cs)
  where
    below : List Column
    below = filter (λ d. eqb d.table t) cs

    go : (b : Bool) → flat_map (map (λ b. add_column b.lo b.hi) (table_in cs t)) entry_bytes ≡ flat_map cs (column_in t)
        → flat_map (map (λ b. add_column b.lo b.hi) (map bounds_of (cond b (c ∷ below) below))) entry_bytes
        ≡ cond b (0x11 ∷ encoded 4 c.bounds.lo ++ encoded 4 c.bounds.hi) [] ++ flat_map cs (column_in t)
    go true e = rw e
    go false e = e

table_meant : (cs : List Column) (t : ℕ) → flat_map (table_entries (table_in cs t)) entry_bytes ≡ table_bytes cs t
unfolding table_bytes
table_meant cs t = ap (λ (l : List ℕ). 0x10 ∷ l) (columns_meant t cs)

comparisons_meant : (ks : List Comparison)
    → flat_map (map (λ k. add_comparison (number_of_op k.op) k.left k.right) (map comparison_of ks)) entry_bytes
    ≡ flat_map ks comparison_in
comparisons_meant [] = refl
comparisons_meant (k ∷ ks) = ap (λ (l : List ℕ). comparison_in k ++ l) (comparisons_meant ks)

clause_meant : (c : Clause) → flat_map (clause_entries (clause_of c)) entry_bytes ≡ clause_bytes c
unfolding clause_bytes
clause_meant c = ap (λ (l : List ℕ). 0x40 ∷ l) (comparisons_meant (take c.size c.comparisons))

expression_meant : (e : Expression) → flat_map (expression_entries (expression_of e)) entry_bytes ≡ expression_bytes e
unfolding expression_entries expression_of expression_bytes condition_bytes
expression_meant e =
    let used = take e.tables e.used in
    let outputs = take e.width e.outputs in
    let clauses = take e.condition.size e.condition.clauses in
    flat_two entry_bytes (map use_table used ++ map add_output outputs) (flat_map (map clause_of clauses) clause_entries)
    (flat_two entry_bytes (map use_table used) (map add_output outputs) (flat_map_map use_table entry_bytes used)
    (flat_map_map add_output entry_bytes outputs))
    (flat_parts clause_of clause_entries entry_bytes clause_bytes clause_meant clauses)

pub meant : (r : Job) → job_bytes (meaning_of r) ≡ record_bytes r
unfolding job_bytes entries_of job_of record_bytes tables_bytes
meant r =
    let cs = columns_in r.declared in
    let ts = take r.declared.tables table_numbers in
    let tables = flat_map (map (table_in cs) ts) table_entries in
    let extract = mark 0x20 ∷ expression_entries (expression_of r.extract) in
    let query = mark 0x21 ∷ expression_entries (expression_of r.query) in
    ap (λ (l : List ℕ). start_bytes ++ l)
    (flat_two entry_bytes (tables ++ extract ++ query) (mark 0xFF ∷ [])
    (flat_two entry_bytes (tables ++ extract) query
    (flat_two entry_bytes tables extract (flat_parts (table_in cs) table_entries entry_bytes (table_bytes cs) (table_meant cs) ts)
    (ap (λ (l : List ℕ). 0x20 ∷ l) (expression_meant r.extract)))
    (ap (λ (l : List ℕ). 0x21 ∷ l) (expression_meant r.query))) refl)
