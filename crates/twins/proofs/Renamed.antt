-- What a condition says of the second of two rows, said of the two as one. Assumes nothing.
use mathlib.Core.Path.{◌≡◌, refl, ap, ◌∙◌}
use mathlib.Core.List.{List, [], ◌∷◌, map}
use Prim.Native.Nat.{ℕ}
use lib.ListN.{length}
use lib.Dec.{T}
use mir.Facts.{and_yes}
use Rattle.base.specs.Lists.{all_of}
use Rattle.model.specs.Tables.{Table, Row, Against, column, number, Clause, Condition, Expression, columns_of, value, operand, clause_holds, condition_holds}
use Rattle.model.specs.WellFormed.{in_scope, against_in_scope, comparison_formed}
use Rattle.solver.proofs.Formed.{scope_declared}
use Rattle.twins.specs.Twins.{twin_of, renamed_side, renamed_comparison, renamed}
use Rattle.twins.proofs.Rows.{first_row, second_row}
use Rattle.twins.proofs.Twins.{first_value, second_value}

-- ---- where s has in each column that may be named the value that r has in that column's new name
module _ (ts : List Table) (e : Expression) (f : ℕ → ℕ) (r s : Row) (named : (c : ℕ) → T (in_scope ts e c) → value s c ≡ value r (f c)) where
  renamed_operand : (a : Against) → T (against_in_scope ts e a) → operand s a ≡ operand r (renamed_side f a)
  renamed_operand (column c) h = named c h
  renamed_operand (number v) h = refl

  renamed_clause_lem : (c : Clause) → T (all_of (comparison_formed ts e) c) → clause_holds s c ≡ clause_holds r (map (renamed_comparison f) c)
  unfolding clause_holds
  renamed_clause_lem [] t = refl
  renamed_clause_lem (k ∷ c) t =
      let (h, i) = and_yes (comparison_formed ts e k) (all_of (comparison_formed ts e) c) t in
      let (l, a) = and_yes (in_scope ts e k.left) (against_in_scope ts e k.right) h in
      rw (named k.left l, renamed_operand k.right a, renamed_clause_lem c i)

  pub renamed_holds : (k : Condition) → T (all_of (all_of (comparison_formed ts e)) k) → condition_holds s k ≡ condition_holds r (renamed f k)
  unfolding condition_holds renamed
  renamed_holds [] t = refl
  renamed_holds (c ∷ k) t =
      let (h, i) = and_yes (all_of (comparison_formed ts e) c) (all_of (all_of (comparison_formed ts e)) k) t in
      rw (renamed_clause_lem c h, renamed_holds k i)

-- ---- with the old names
kept_side : (a : Against) → renamed_side (λ c. c) a ≡ a
kept_side (column c) = refl
kept_side (number v) = refl

kept_clause : (c : Clause) → map (renamed_comparison (λ c. c)) c ≡ c
kept_clause [] = refl
kept_clause (k ∷ c) = rw (kept_side k.right, kept_clause c)

pub kept : (k : Condition) → renamed (λ c. c) k ≡ k
unfolding renamed
kept [] = refl
kept (c ∷ k) = rw (kept_clause c, kept k)

-- ---- of two rows as one
module _ (ts : List Table) (stored : List ℕ) (e : Expression) where
  abbrev n : ℕ
  n = length (columns_of ts)

  module _ (t : Row) (k : Condition) (formed : T (all_of (all_of (comparison_formed ts e)) k)) where
    pub first_holds : condition_holds (first_row n stored t) k ≡ condition_holds t k
    first_holds =
        renamed_holds ts e (λ c. c) t (first_row n stored t) (λ c h. first_value n stored t c (scope_declared ts e c h)) k formed ∙ ap (condition_holds t) (kept k)

    pub second_holds : condition_holds (second_row n stored t) k ≡ condition_holds t (renamed (twin_of n stored) k)
    second_holds =
        renamed_holds ts e (twin_of n stored) t (second_row n stored t) (λ c h. second_value n stored t c (scope_declared ts e c h)) k formed
