-- What a well-formed expression looks at, and so its rows on a database. Only this file opens conditions and outputs. Assumes nothing.
use mathlib.Core.Path.{◌≡◌, refl, sym, ◌∙◌}
use mathlib.Core.Bool.{Bool, true, false, not, cond}
use mathlib.Core.Logic.{◌↔◌}
use mathlib.Core.List.Memᴰ
use mathlib.Core.List.{List, [], ◌∷◌, map}
use Prim.Native.Nat.{ℕ, ◌<◌}
use lib.ListN.{length}
use mir.Facts.{and_yes}
use lib.Dec.{T, eqb, ltb, ltb→lt, eqb→eq, eqb_refl, T_not}
use Rattle.base.specs.Lists.{◌∈◌, all_of, filter, is_empty}
use Rattle.base.proofs.Lists.{any_has, has_any, all_has, filter_has, has_filter, pairwise_length}
use Rattle.base.proofs.Tests.{stable}
use Rattle.model.specs.Tables.{Table, Row, TableRow, OutputRow, Against, column, number, Comparison, Clause, Condition, Expression, value, operand, comparison_holds, clause_holds, condition_holds, meets, outputs_of, uses, table_of, part_of, inside, within, Database, WithinBounds, combinations, rows_of, columns_of}
use Rattle.model.specs.WellFormed.{in_scope, against_in_scope, comparison_formed, table_formed}
use Rattle.model.specs.Verdict.{uses_other}
use Rattle.model.proofs.Formed.{Formed}
use Rattle.model.proofs.Combinations.{Combines, combinations_within, combinations_combine, combine_combinations, combinations_cong, combinations_more, combinations_none, combinations_one, blend, blend_value}

-- ---- used tables
module _ (e : Expression) where
  member_used : {t : ℕ} → t ∈ e.used → T (uses e t)
  unfolding uses
  member_used {t} m = has_any (eqb t) m (eqb_refl t)

  pub used_declared : (ts : List Table) → Formed ts e → (t : ℕ) → T (uses e t) → t < length ts
  unfolding uses
  used_declared ts f t u =
      let (x, m, h) = any_has (eqb t) e.used u in
      rw (eqb→eq t x h) (ltb→lt x (length ts) (all_has (λ s. ltb s (length ts)) m f.declared))

  -- at least one table is used
  some_used : (ts : List Table) → Formed ts e → (t : ℕ) × T (uses e t)
  some_used ts f = go e.used (λ t m. member_used m) f.some_used
    where
      go : (us : List ℕ) → ((t : ℕ) → t ∈ us → T (uses e t)) → T (not (is_empty us)) → (t : ℕ) × T (uses e t)
      go [] h n = absurd n
      go (t ∷ us) h n = (t, h t (Memᴰ.head refl))

  pub other_used : (f : Expression) → T (uses_other e f) → (t : ℕ) × T (uses e t) × T (not (uses f t))
  unfolding uses_other
  other_used f o = let (t, m, h) = any_has (λ t. not (uses f t)) e.used o in (t, member_used m, h)

  -- where e uses no table that f doesn't use
  pub none_other : (f : Expression) → T (not (uses_other e f)) → (t : ℕ) → T (uses e t) → T (uses f t)
  unfolding uses_other uses
  none_other f n t u =
      let (x, m, h) = any_has (eqb t) e.used u in
      stable (uses f t) (λ k. T_not (uses_other e f) n (has_any (λ s. not (uses f s)) m (rw (eqb→eq t x h) at k)))

-- ---- two rows with the same values in every column that the expression may look at
module _ (ts : List Table) (e : Expression) (r s : Row) (alike : (c : ℕ) → T (in_scope ts e c) → value r c ≡ value s c) where
  same_operand : (a : Against) → T (against_in_scope ts e a) → operand r a ≡ operand s a
  same_operand (column c) h = alike c h
  same_operand (number n) h = refl

  same_comparison_lem : (k : Comparison) → T (comparison_formed ts e k) → comparison_holds r k ≡ comparison_holds s k
  same_comparison_lem k t =
      let (h, i) = and_yes (in_scope ts e k.left) (against_in_scope ts e k.right) t in
      rw (alike k.left h, same_operand k.right i)

  same_clause_lem : (c : Clause) → T (all_of (comparison_formed ts e) c) → clause_holds r c ≡ clause_holds s c
  unfolding clause_holds
  same_clause_lem [] t = refl
  same_clause_lem (k ∷ c) t =
      let (h, i) = and_yes (comparison_formed ts e k) (all_of (comparison_formed ts e) c) t in
      rw (same_comparison_lem k h, same_clause_lem c i)

  same_condition_lem : (k : Condition) → T (all_of (all_of (comparison_formed ts e)) k) → condition_holds r k ≡ condition_holds s k
  unfolding condition_holds
  same_condition_lem [] t = refl
  same_condition_lem (c ∷ k) t =
      let (h, i) = and_yes (all_of (comparison_formed ts e) c) (all_of (all_of (comparison_formed ts e)) k) t in
      rw (same_clause_lem c h, same_condition_lem k i)

  same_columns : (cs : List ℕ) → T (all_of (in_scope ts e) cs) → map (value r) cs ≡ map (value s) cs
  same_columns [] t = refl
  same_columns (c ∷ cs) t = let (h, i) = and_yes (in_scope ts e c) (all_of (in_scope ts e) cs) t in rw (alike c h, same_columns cs i)

  pub same_meets : Formed ts e → meets e r ≡ meets e s
  unfolding meets
  same_meets f = same_condition_lem e.condition f.condition

  pub same_outputs : Formed ts e → outputs_of e r ≡ outputs_of e s
  unfolding outputs_of
  same_outputs f = same_columns e.outputs f.outputs

-- ---- an expression's rows
module _ (ts : List Table) (e : Expression) (d : Database) where
  pub rows_has : {o : OutputRow} → o ∈ rows_of ts e d → (r : Row) × (r ∈ combinations (uses e) ts d) × T (meets e r) × (outputs_of e r ≡ o)
  unfolding rows_of
  rows_has m =
      let (r, n, a) = Memᴰ.of_map (outputs_of e) (filter (meets e) (combinations (uses e) ts d)) m in
      let (c, t) = filter_has (meets e) (combinations (uses e) ts d) n in
      (r, c, t, a)

  pub has_rows : {r : Row} → r ∈ combinations (uses e) ts d → T (meets e r) → outputs_of e r ∈ rows_of ts e d
  unfolding rows_of
  has_rows m t = Memᴰ.map (outputs_of e) (has_filter (meets e) m t)

  module _ (f : Formed ts e) where
    -- none where a used table has no row
    pub rows_none : (t : ℕ) → T (uses e t) → d t ≡ [] → rows_of ts e d ≡ []
    unfolding rows_of
    rows_none t u h = rw (combinations_none (uses e) ts d t (used_declared e ts f t u) u h)

    pub rows_empty : ((t : ℕ) → d t ≡ []) → rows_of ts e d ≡ []
    rows_empty h = let (t, u) = some_used e ts f in rows_none t u (h t)

-- the blend of a row has its values in every column that the expression may look at
module _ (ts : List Table) (e : Expression) (f : Formed ts e) (r : Row) (w : T (within (columns_of ts) r)) where
  abbrev mixed : Row
  mixed = blend (uses e) ts r

  mixed_value : (c : ℕ) → T (in_scope ts e c) → value mixed c ≡ value r c
  mixed_value c t =
      let (lt, u) = and_yes (ltb c (length (columns_of ts))) (uses e (table_of ts c)) t in
      blend_value (uses e) ts r c (pairwise_length inside (columns_of ts) r w) (ltb→lt c (length (columns_of ts)) lt) u

  mixed_meets : meets e mixed ≡ meets e r
  mixed_meets = same_meets ts e mixed r mixed_value f

  mixed_outputs : outputs_of e mixed ≡ outputs_of e r
  mixed_outputs = same_outputs ts e mixed r mixed_value f

  -- the rows of one row within bounds, where each used table holds its part
  pub rows_one : (d : Database) → ((t : ℕ) → t < length ts → T (uses e t) → d t ≡ part_of ts r t ∷ [])
      → rows_of ts e d ≡ cond (meets e r) (outputs_of e r ∷ []) []
  unfolding rows_of
  rows_one d h = rw (combinations_one (uses e) ts r d h, mixed_meets) (go (meets e r))
    where
      go : (b : Bool) → map (outputs_of e) (cond b (mixed ∷ []) []) ≡ cond b (outputs_of e r ∷ []) []
      go true = rw mixed_outputs
      go false = refl

-- Section 2 of document 004: the outputs of every row whose part in each used table is a row of that table and that meets the condition
pub rows_are : (ts : List Table) (e : Expression) (d : Database) → T (all_of table_formed ts) → Formed ts e → WithinBounds ts d → (o : OutputRow)
    → (o ∈ rows_of ts e d) ↔ ((r : Row) × T (within (columns_of ts) r) × Combines (uses e) ts d r × T (meets e r) × (outputs_of e r ≡ o))
rows_are ts e d p f w o = (
  λ m. let (r, c, t, a) = rows_has ts e d m in (r, combinations_within (uses e) ts d p w c, combinations_combine (uses e) ts d p w c, t, a),
  λ (r, v, c, t, a). Memᴰ.cast (sym a ∙ sym (mixed_outputs ts e f r v)) (has_rows ts e d (combine_combinations (uses e) ts d r c) (rw (mixed_meets ts e f r v) t)),
)

-- only the rows in used tables matter, as lists and as sets
pub rows_cong : (ts : List Table) (e : Expression) (d f : Database) → ((t : ℕ) → t < length ts → T (uses e t) → d t ≡ f t)
    → rows_of ts e d ≡ rows_of ts e f
unfolding rows_of
rows_cong ts e d f h = rw (combinations_cong (uses e) (uses e) ts d f (λ t lt. refl) h)

pub rows_more : (ts : List Table) (e : Expression) (d f : Database)
    → ((t : ℕ) → t < length ts → T (uses e t) → (x : TableRow) → x ∈ d t → x ∈ f t) → {o : OutputRow} → o ∈ rows_of ts e d
    → o ∈ rows_of ts e f
rows_more ts e d f h m =
    let (r, c, t, a) = rows_has ts e d m in
    rw (← a) (has_rows ts e f (combinations_more (uses e) ts d f h c) t)
