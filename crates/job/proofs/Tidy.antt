-- A job's record has zeros past each count. Assumes nothing.
use mathlib.Core.Path.{refl, sym}
use mathlib.Core.Logic.{⊎_elim}
use mathlib.Core.List.Memᴰ
use mathlib.Core.List.{[], ◌∷◌, map}
use Prim.Native.Nat.{ℕ, zero, suc, ◌-◌}
use lib.ListN.{length, replicate, length-map}
use Rattle.base.proofs.Arrays.{drop_padded}
use Rattle.base.specs.Lists.{◌∈◌}
use Rattle.base.specs.Arrays.{EmptyPast}
use Rattle.model.specs.Tables as model
use Rattle.job.specs.declared.Clause.{Clause}
use Rattle.job.specs.Record.{no_column, no_comparison, no_clause, TidyCondition, TidyExpression, Tidy}
use Rattle.job.specs.Meaning.{comparison_record, clause_record, condition_record, expression_record, column_records, record_of}
use Rattle.job.proofs.Meaning.{columns_length}

clause_past : (c : model.Clause) → EmptyPast 6 no_comparison (length c) (clause_record c).comparisons
clause_past c = drop_padded 6 no_comparison (map comparison_record c) (length c) (sym (length-map c comparison_record))

-- a clause of an expression's record is a clause's record, or the empty one
clauses_past : (cs : model.Condition) (c : Clause) → c ∈ map clause_record cs → EmptyPast 6 no_comparison c.size c.comparisons
clauses_past [] c m = absurd (Memᴰ.not-nil m)
clauses_past (x ∷ cs) c (Memᴰ.head e) = rw e (clause_past x)
clauses_past (x ∷ cs) c (Memᴰ.tail m) = clauses_past cs c m

empty_past : (n : ℕ) (c : Clause) → c ∈ replicate n no_clause → EmptyPast 6 no_comparison c.size c.comparisons
empty_past zero c m = absurd (Memᴰ.not-nil m)
empty_past (suc n) c (Memᴰ.head e) = rw e refl
empty_past (suc n) c (Memᴰ.tail m) = empty_past n c m

condition_tidy : (k : model.Condition) → TidyCondition (condition_record k)
condition_tidy k = record {
  clauses = drop_padded 4 no_clause (map clause_record k) _ (sym (length-map k clause_record));
  comparisons = λ c m.
      ⊎_elim (clauses_past k c) (empty_past (4 - length (map clause_record k)) c) (Memᴰ.append_cases (map clause_record k) m);
}

expression_tidy : (e : model.Expression) → TidyExpression (expression_record e)
unfolding expression_record
expression_tidy e = record {
  used = drop_padded 4 0 e.used _ refl;
  outputs = drop_padded 16 0 e.outputs _ refl;
  condition = condition_tidy e.condition;
}

pub record_tidy : (j : model.Job) → Tidy (record_of j)
unfolding record_of
record_tidy j = record {
  columns = drop_padded 16 no_column (column_records 0 j.tables) _ (sym (columns_length 0 j.tables));
  extract = expression_tidy j.extract;
  query = expression_tidy j.query;
}
