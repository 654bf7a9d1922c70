-- Records that are alike are equal. Assumes nothing.
use mathlib.Core.Path.{◌≡◌, refl}
use mathlib.Core.Bool.{Bool, true}
use mathlib.Core.List.{List, [], ◌∷◌}
use Prim.Native.Nat.{ℕ}
use lib.IntN.{ℤ}
use lib.Dec.{T, eqb, eqb→eq}
use mir.Facts.{and_yes}
use borrow.Author.Tests.{eq-eqb}
use Rattle.base.specs.Lists.{pairwise}
use Rattle.base.proofs.Lists.{pairwise_is}
use Rattle.base.proofs.Tests.{T-is}
use Rattle.words.specs.Compare.{eq_z}
use Rattle.words.proofs.Order.{eq_z_is, eq_z_refl}
use Rattle.job.specs.declared.Column.{Column}
use Rattle.job.specs.declared.Comparison.{Comparison}
use Rattle.job.specs.declared.Clause.{Clause}
use Rattle.job.specs.declared.Condition.{Condition}
use Rattle.job.specs.declared.Expression.{Expression}
use Rattle.job.specs.declared.Job.{Job}
use Rattle.job.specs.Same.{same_column, same_comparison, same_clause, same_condition, same_expression, same_columns, same_job}

-- ---- alike, so equal
column_is : (a b : Column) → T (same_column a b) → a ≡ b
unfolding same_column
column_is a b t₀ =
    let t₁ = and_yes (eqb a.table b.table) _ t₀ in
    let table_is : a.table ≡ b.table = eqb→eq _ _ t₁.0 in
    let t₂ = and_yes (eq_z a.bounds.lo b.bounds.lo) _ t₁.1 in
    let lo_is : a.bounds.lo ≡ b.bounds.lo = eq_z_is _ _ t₂.0 in
    let hi_is : a.bounds.hi ≡ b.bounds.hi = eq_z_is _ _ t₂.1 in
    let all : ◌≡◌ {A = Column} (record { table = a.table; bounds = record { lo = a.bounds.lo; hi = a.bounds.hi } }) (record { table = b.table; bounds = record { lo = b.bounds.lo; hi = b.bounds.hi } }) = cc in
    all

comparison_is : (a b : Comparison) → T (same_comparison a b) → a ≡ b
unfolding same_comparison
comparison_is a b t₀ =
    let t₁ = and_yes (eqb a.op b.op) _ t₀ in
    let op_is : a.op ≡ b.op = eqb→eq _ _ t₁.0 in
    let t₂ = and_yes (eqb a.left b.left) _ t₁.1 in
    let left_is : a.left ≡ b.left = eqb→eq _ _ t₂.0 in
    let t₃ = and_yes (eqb a.right b.right) _ t₂.1 in
    let right_is : a.right ≡ b.right = eqb→eq _ _ t₃.0 in
    let number_is : a.number ≡ b.number = eq_z_is _ _ t₃.1 in
    let all : ◌≡◌ {A = Comparison} (record { op = a.op; left = a.left; right = a.right; number = a.number }) (record { op = b.op; left = b.left; right = b.right; number = b.number }) = cc in
    all

clause_is : (a b : Clause) → T (same_clause a b) → a ≡ b
unfolding same_clause
clause_is a b t₀ =
    let t₁ = and_yes (eqb a.size b.size) _ t₀ in
    let size_is : a.size ≡ b.size = eqb→eq _ _ t₁.0 in
    let comparisons-is : a.comparisons ≡ b.comparisons = pairwise_is same_comparison comparison_is _ _ t₁.1 in
    let all : ◌≡◌ {A = Clause} (record { size = a.size; comparisons = a.comparisons }) (record { size = b.size; comparisons = b.comparisons }) = cc in
    all

condition_is : (a b : Condition) → T (same_condition a b) → a ≡ b
unfolding same_condition
condition_is a b t₀ =
    let t₁ = and_yes (eqb a.size b.size) _ t₀ in
    let size_is : a.size ≡ b.size = eqb→eq _ _ t₁.0 in
    let clauses-is : a.clauses ≡ b.clauses = pairwise_is same_clause clause_is _ _ t₁.1 in
    let all : ◌≡◌ {A = Condition} (record { size = a.size; clauses = a.clauses }) (record { size = b.size; clauses = b.clauses }) = cc in
    all

expression_is : (a b : Expression) → T (same_expression a b) → a ≡ b
unfolding same_expression
expression_is a b t₀ =
    let t₁ = and_yes (eqb a.tables b.tables) _ t₀ in
    let tables-is : a.tables ≡ b.tables = eqb→eq _ _ t₁.0 in
    let t₂ = and_yes (pairwise eqb a.used b.used) _ t₁.1 in
    let used_is : a.used ≡ b.used = pairwise_is eqb eqb→eq _ _ t₂.0 in
    let t₃ = and_yes (eqb a.width b.width) _ t₂.1 in
    let width_is : a.width ≡ b.width = eqb→eq _ _ t₃.0 in
    let t₄ = and_yes (pairwise eqb a.outputs b.outputs) _ t₃.1 in
    let outputs-is : a.outputs ≡ b.outputs = pairwise_is eqb eqb→eq _ _ t₄.0 in
    let condition-equal : a.condition ≡ b.condition = condition_is _ _ t₄.1 in
    let all : ◌≡◌ {A = Expression}
    (record { tables = a.tables; used = a.used; width = a.width; outputs = a.outputs; condition = a.condition })
    (record { tables = b.tables; used = b.used; width = b.width; outputs = b.outputs; condition = b.condition }) = cc in
    all

pub same_is : (a b : Job) → T (same_job a b) → a ≡ b
unfolding same_columns same_job
same_is a b t =
    let t₅ = and_yes (same_columns a.declared b.declared) _ t in
    let t₁ = and_yes (eqb a.declared.tables b.declared.tables) _ t₅.0 in
    let tables-is : a.declared.tables ≡ b.declared.tables = eqb→eq _ _ t₁.0 in
    let t₂ = and_yes (eqb a.declared.width b.declared.width) _ t₁.1 in
    let width_is : a.declared.width ≡ b.declared.width = eqb→eq _ _ t₂.0 in
    let columns_is : a.declared.columns ≡ b.declared.columns = pairwise_is same_column column_is _ _ t₂.1 in
    let t₄ = and_yes (same_expression a.extract b.extract) _ t₅.1 in
    let extract_is : a.extract ≡ b.extract = expression_is _ _ t₄.0 in
    let query_is : a.query ≡ b.query = expression_is _ _ t₄.1 in
    let all : ◌≡◌ {A = Job} (record { declared = record { tables = a.declared.tables; width = a.declared.width; columns = a.declared.columns }; extract = a.extract; query = a.query }) (record { declared = record { tables = b.declared.tables; width = b.declared.width; columns = b.declared.columns }; extract = b.extract; query = b.query }) = cc in
    all

-- ---- alike to itself
number_same : (n : ℕ) → eqb n n ≡ true
number_same n = eq-eqb n n refl

value_same : (v : ℤ) → eq_z v v ≡ true
value_same v = T-is (eq_z v v) (eq_z_refl v)

list_same : {A : Type 0} (p : A → A → Bool) → ((x : A) → p x x ≡ true) → (l : List A) → pairwise p l l ≡ true
list_same p e [] = refl
list_same p e (x ∷ l) = rw (e x, list_same p e l)

column_same : (a : Column) → same_column a a ≡ true
unfolding same_column
column_same a = rw (number_same a.table, value_same a.bounds.lo, value_same a.bounds.hi)

comparison_same : (a : Comparison) → same_comparison a a ≡ true
unfolding same_comparison
comparison_same a = rw (number_same a.op, number_same a.left, number_same a.right, value_same a.number)

clause_same : (a : Clause) → same_clause a a ≡ true
unfolding same_clause
clause_same a = rw (number_same a.size, list_same same_comparison comparison_same a.comparisons)

condition_same : (a : Condition) → same_condition a a ≡ true
unfolding same_condition
condition_same a = rw (number_same a.size, list_same same_clause clause_same a.clauses)

expression_same : (a : Expression) → same_expression a a ≡ true
unfolding same_expression
expression_same a =
    rw (
      number_same a.tables,
      list_same eqb number_same a.used,
      number_same a.width,
      list_same eqb number_same a.outputs,
      condition_same a.condition,
    )

pub same_self : (a : Job) → same_job a a ≡ true
unfolding same_columns same_job
same_self a =
    rw (
      number_same a.declared.tables,
      number_same a.declared.width,
      list_same same_column column_same a.declared.columns,
      expression_same a.extract,
      expression_same a.query,
    )
