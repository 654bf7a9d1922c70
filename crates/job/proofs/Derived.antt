-- What `==` answers at records is what specs/Same.antt says. Assumes nothing.
use mathlib.Core.Path.{◌≡◌, refl}
use mathlib.Core.Bool.{Bool, ◌&&◌}
use mathlib.Core.List.{List, [], ◌∷◌}
use lib.Dec.{eqb}
use lib.Pointwise.{pointwise}
use Rattle.std.specs.Ordering.{int_eq}
use Rattle.base.specs.Lists.{pairwise}
use Rattle.words.proofs.Order.{int_eq_is}
use Rattle.job.specs.declared.Column.{Column}
use Rattle.job.specs.declared.Comparison.{Comparison}
use Rattle.job.specs.declared.Clause.{Clause}
use Rattle.job.specs.declared.Condition.{Condition}
use Rattle.job.specs.declared.Expression.{Expression}
use Rattle.job.specs.declared.Job.{Job}
use Rattle.job.specs.Same.{same_column, same_comparison, same_clause, same_condition, same_expression, same_columns, same_job}

pointwise_is : {A : Type 0} (p q : A → A → Bool) → ((x y : A) → p x y ≡ q x y) → (xs ys : List A) → pointwise p xs ys ≡ pairwise q xs ys
pointwise_is p q h [] [] = refl
pointwise_is p q h [] (y ∷ ys) = refl
pointwise_is p q h (x ∷ xs) [] = refl
pointwise_is p q h (x ∷ xs) (y ∷ ys) = rw (h x y, pointwise_is p q h xs ys)

-- ---- What the derived comparisons compute

abbrev pub column : Column → Column → Bool
column a b = eqb a.table b.table && (int_eq a.bounds.lo b.bounds.lo && int_eq a.bounds.hi b.bounds.hi)

abbrev pub comparison : Comparison → Comparison → Bool
comparison a b = eqb a.op b.op && (eqb a.left b.left && (eqb a.right b.right && int_eq a.number b.number))

abbrev pub clause : Clause → Clause → Bool
clause a b = eqb a.size b.size && pointwise comparison a.comparisons b.comparisons

abbrev pub condition : Condition → Condition → Bool
condition a b = eqb a.size b.size && pointwise clause a.clauses b.clauses

abbrev pub expression : Expression → Expression → Bool
expression a b =
    eqb a.tables b.tables && (pointwise eqb a.used b.used
    && (eqb a.width b.width && (pointwise eqb a.outputs b.outputs && condition a.condition b.condition)))

abbrev pub derived : Job → Job → Bool
derived a b =
    (eqb a.declared.tables b.declared.tables
    && (eqb a.declared.width b.declared.width && pointwise column a.declared.columns b.declared.columns))
    && (expression a.extract b.extract && expression a.query b.query)

-- ---- And that it is the same

column_is : (a b : Column) → column a b ≡ same_column a b
unfolding same_column
column_is a b = rw (int_eq_is a.bounds.lo b.bounds.lo, int_eq_is a.bounds.hi b.bounds.hi)

comparison_is : (a b : Comparison) → comparison a b ≡ same_comparison a b
unfolding same_comparison
comparison_is a b = rw (int_eq_is a.number b.number)

clause_is : (a b : Clause) → clause a b ≡ same_clause a b
unfolding same_clause
clause_is a b = rw (pointwise_is comparison same_comparison comparison_is a.comparisons b.comparisons)

condition_is : (a b : Condition) → condition a b ≡ same_condition a b
unfolding same_condition
condition_is a b = rw (pointwise_is clause same_clause clause_is a.clauses b.clauses)

expression_is : (a b : Expression) → expression a b ≡ same_expression a b
unfolding same_expression
expression_is a b =
    rw (
      pointwise_is eqb eqb (λ x y. refl) a.used b.used,
      pointwise_is eqb eqb (λ x y. refl) a.outputs b.outputs,
      condition_is a.condition b.condition,
    )

pub derived_is : (a b : Job) → derived a b ≡ same_job a b
unfolding same_columns same_job
derived_is a b =
    rw (
      pointwise_is column same_column column_is a.declared.columns b.declared.columns,
      expression_is a.extract b.extract,
      expression_is a.query b.query,
    )
