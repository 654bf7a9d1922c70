-- Tests on the record of a job are the tests on the job. Assumes nothing.
use mathlib.Core.Path.{◌≡◌, refl, sym, ap, ◌∙◌}
use mathlib.Core.Bool.{Bool, true, false, ◌&&◌}
use mathlib.Core.List.{List, [], ◌∷◌, map}
use Prim.Native.Nat.{ℕ, ◌-◌, ◌≤◌, ◌<◌}
use native.Mathlib.Numerals.{sub-one}
use native.Mathlib.Omega.{arith}
use lib.ListN.{length, get_or, take, length-map}
use lib.Dec.{eqb, ltb}
use borrow.Author.Tests.{le-ltb, lt-ltb, ltb-true}
use Rattle.std.specs.Prelude.{None, Some, slice_get}
use Rattle.std.proofs.lemmas.Option.{slice_get_within, get_or_from_slice_get}
use Rattle.base.specs.Lists.{any_of, last_of}
use Rattle.base.specs.Arrays.{padded}
use Rattle.base.proofs.Arrays.{take_padded}
use Rattle.model.specs.Tables as model
use Rattle.model.specs.Tables.{columns_of, table_of, uses}
use Rattle.model.specs.WellFormed.{in_scope}
use Rattle.job.specs.declared.Clause.{Clause}
use Rattle.job.specs.declared.Expression.{Expression}
use Rattle.job.specs.declared.Job.{Job}
use Rattle.job.specs.Record.{no_column, no_clause}
use Rattle.job.specs.Meaning.{column_records, clause_record, condition_record, expression_record, record_of}
use Rattle.job.proofs.Declared.{column_of}
use Rattle.layout.specs.Reading.{above_last}
use Rattle.commands.specs.Uses.{last_clause}
use Rattle.commands.proofs.Laid.{last_at, last_laid}

-- column c is declared, and its table used
abbrev pub scoped_in : Job → Expression → ℕ → Bool
scoped_in r e c = ltb c r.declared.width && any_of (eqb (get_or r.declared.columns c no_column).table) (take e.tables e.used)

-- a list with no last element is empty
no_last : {A : Type 0} (l : List A) → None ≡ slice_get l (length l - 1) → l ≡ []
no_last [] e = refl
no_last {A} (x ∷ l) e = absurd (go x l (rw sub-one at e))
  where
    go : (x : A) (l : List A) → None ≡ slice_get (x ∷ l) (length l) → ⊥
    go x [] e = let w : ◌≡◌ {A = ℕ} 0 1 = cc in omega arith
    go x (y ∷ l) e = go y l e

-- the last of some numbers, and the test against it
some_last : (l : List ℕ) (t u : ℕ) → Some u ≡ slice_get l (length l - 1) → ltb u t ≡ above_last l t
some_last [] t u e = let w : ◌≡◌ {A = ℕ} 0 1 = cc in absurd (omega arith)
some_last (x ∷ l) t u e = go x l (rw sub-one at e)
  where
    go : (x : ℕ) (l : List ℕ) → Some u ≡ slice_get (x ∷ l) (length l) → ltb u t ≡ above_last (x ∷ l) t
    go x [] e = let w : u ≡ x = cc in rw w
    go x (y ∷ l) e = go y l e

pub outputs_are : (e : model.Expression) → take (expression_record e).width (expression_record e).outputs ≡ e.outputs
unfolding expression_record
outputs_are e = take_padded 16 0 e.outputs _ refl

used_are : (e : model.Expression) → take (expression_record e).tables (expression_record e).used ≡ e.used
unfolding expression_record
used_are e = take_padded 4 0 e.used _ refl

pub scoped_is : (j : model.Job) (e : model.Expression) (c : ℕ) → scoped_in (record_of j) (expression_record e) c ≡ in_scope j.tables e c
unfolding record_of uses
scoped_is j e c = rw (used_are e) (go (ltb c (length (columns_of j.tables))) refl)
  where
    table : ℕ
    table = (get_or (padded 16 no_column (column_records 0 j.tables)) c no_column).table

    go : (b : Bool) → ltb c (length (columns_of j.tables)) ≡ b
        → (b && any_of (eqb table) e.used) ≡ (b && any_of (eqb (table_of j.tables c)) e.used)
    go true h = ap (λ (t : ℕ). any_of (eqb t) e.used) (column_of j.tables c no_column (ltb-true c (length (columns_of j.tables)) h))
    go false h = refl

-- ---- of an expression that is a job's
module _ (x : Expression) (e : model.Expression) (is : x ≡ expression_record e) where
  module _ (l : List ℕ) (t : ℕ) (used : l ≡ take x.tables x.used) where
    same : l ≡ e.used
    same = used ∙ rw is (used_are e)

    pub above_none : None ≡ slice_get l (length l - 1) → true ≡ above_last e.used t
    above_none h = rw (no_last e.used (rw same at h))

    pub above_some : (u : ℕ) → Some u ≡ slice_get l (length l - 1) → ltb u t ≡ above_last e.used t
    above_some u h = some_last e.used t u (rw same at h)

  pub outputs_held : take x.width x.outputs ≡ e.outputs
  outputs_held = rw is (outputs_are e)

-- the number of comparisons in the last clause
pub last_size_is : (k : model.Condition) → (last_clause (condition_record k)).size ≡ length (last_of k)
last_size_is [] = refl
last_size_is (x ∷ k) = ap (λ (c : Clause). c.size) (last_laid (x ∷ k) (length k) refl)

pub size_held : (x : Expression) (e : model.Expression) → x ≡ expression_record e → x.condition.size ≡ length e.condition
unfolding expression_record
size_held x e is = rw is

-- the clauses of an expression, and the last of them
clauses_are : (e : model.Expression) → take (expression_record e).condition.size (expression_record e).condition.clauses
    ≡ map clause_record e.condition
unfolding expression_record
clauses_are e = take_padded 4 no_clause (map clause_record e.condition) _ (sym (length-map e.condition clause_record))

last_clause_is : (k : model.Condition) (c : Clause) → slice_get (map clause_record k) (length (map clause_record k) - 1) ≡ Some c
    → c ≡ clause_record (last_of k)
last_clause_is k c e =
    let l = map clause_record k in
    let below : length l - 1 < length l = slice_get_within l (length l - 1) c e in
    sym (get_or_from_slice_get l (length l - 1) c no_clause e)
    ∙ last_at clause_record k (length l - 1) no_clause (omega (arith, below, length-map k clause_record))

module _ (x : Expression) (e : model.Expression) (is : x ≡ expression_record e) (l : List Clause)
    (held : l ≡ take x.condition.size x.condition.clauses) where
  same_clauses : l ≡ map clause_record e.condition
  same_clauses = held ∙ rw is (clauses_are e)

  pub room_none : None ≡ slice_get l (length l - 1) → true ≡ ltb (length (last_of e.condition)) 6
  room_none h = go e.condition (sym same_clauses ∙ no_last l h)
    where
      go : (k : model.Condition) → map clause_record k ≡ [] → true ≡ ltb (length (last_of k)) 6
      go [] q = refl
      go (x ∷ k) q = let w : ◌≡◌ {A = ℕ} 0 1 = cc in absurd (omega arith)

  pub room_some : (c : Clause) → Some c ≡ slice_get l (length l - 1) → ltb c.size 6 ≡ ltb (length (last_of e.condition)) 6
  room_some c h = rw (last_clause_is e.condition c (sym (rw same_clauses at h)))

-- ---- of a record that is a job's
module _ (r : Job) (j : model.Job) (is : r ≡ record_of j) (e : model.Expression) (c : ℕ) where
  scoped : scoped_in r (expression_record e) c ≡ in_scope j.tables e c
  scoped = rw is (scoped_is j e c)

  pub not_declared : r.declared.width ≤ c → false ≡ in_scope j.tables e c
  not_declared k = rw (le-ltb c r.declared.width k) at scoped

  pub scope_held : c < r.declared.width → (x : Expression) → x ≡ expression_record e
      → any_of (eqb (get_or r.declared.columns c no_column).table) (take x.tables x.used) ≡ in_scope j.tables e c
  scope_held k x q = rw q (rw (lt-ltb c r.declared.width k) at scoped)
