-- The parts that `Default` gives are zeros throughout. Assumes nothing.
use mathlib.Core.Path.{◌≡◌, sym, ◌∙◌}
use mathlib.Core.List.{List}
use Prim.Native.Nat.{ℕ, ◌<◌}
use lib.IntN.{pos}
use lib.ListN.{replicate}
use Rattle.std.specs.Array.{AllOfLen}
use Rattle.std.proofs.lemmas.List.{ext_get_or, get_or-replicate, length-replicate}
use Rattle.job.specs.declared.Column.{Column}
use Rattle.job.specs.declared.Comparison.{Comparison}
use Rattle.job.specs.declared.Clause.{Clause}
use Rattle.job.specs.declared.Condition.{Condition}
use Rattle.job.specs.declared.Expression.{Expression}
use Rattle.job.specs.declared.Columns.{Columns}
use Rattle.job.specs.declared.Job.{Job}
use Rattle.job.specs.Record.{no_column, no_comparison, no_clause, no_condition, no_expression, no_job}

-- an array of parts that are all the same
pub filled : {A : Type 0} {P : A → Type 0} (d : A) → ((x : A) → P x → x ≡ d) → (xs : List A) (n : ℕ) → AllOfLen P xs n → xs ≡ replicate n d
filled d each xs n h =
    ext_get_or d xs (replicate n d) (h.long ∙ sym (length-replicate n d))
    (λ i lt. let below : i < n = rw (sym h.long) lt in each _ (h.at i d below) ∙ sym (get_or-replicate n i d d below))

abbrev IsColumn : Column → Type 0
IsColumn x = (x.table ≡ 0) × ((x.bounds.lo ≡ pos 0) × (x.bounds.hi ≡ pos 0))

column_is : (x : Column) → IsColumn x → x ≡ no_column
column_is x h =
    let a = h.0 in let b = h.1.0 in let c = h.1.1 in
    let all : ◌≡◌ {A = Column} (record { table = x.table; bounds = record { lo = x.bounds.lo; hi = x.bounds.hi } }) no_column = cc in all

abbrev pub IsComparison : Comparison → Type 0
IsComparison x = (x.op ≡ 0) × ((x.left ≡ 0) × ((x.right ≡ 0) × (x.number ≡ pos 0)))

comparison_is : (x : Comparison) → IsComparison x → x ≡ no_comparison
comparison_is x h =
    let a = h.0 in let b = h.1.0 in let c = h.1.1.0 in let d = h.1.1.1 in
    let all : ◌≡◌ {A = Comparison} (record { op = x.op; left = x.left; right = x.right; number = x.number }) no_comparison = cc in all

abbrev pub IsClause : Clause → Type 0
IsClause x = (x.size ≡ 0) × AllOfLen IsComparison x.comparisons 6

pub clause_is : (x : Clause) → IsClause x → x ≡ no_clause
clause_is x h =
    let a = h.0 in
    let b = filled no_comparison comparison_is x.comparisons 6 h.1 in
    let all : ◌≡◌ {A = Clause} (record { size = x.size; comparisons = x.comparisons }) no_clause = cc in all

abbrev IsCondition : Condition → Type 0
IsCondition x = (x.size ≡ 0) × AllOfLen IsClause x.clauses 4

pub condition_is : (x : Condition) → IsCondition x → x ≡ no_condition
condition_is x h =
    let a = h.0 in
    let b = filled no_clause clause_is x.clauses 4 h.1 in
    let all : ◌≡◌ {A = Condition} (record { size = x.size; clauses = x.clauses }) no_condition = cc in all

abbrev IsExpression : Expression → Type 0
IsExpression x =
    (x.tables ≡ 0) × (AllOfLen (λ n. n ≡ 0) x.used 4
    × ((x.width ≡ 0) × (AllOfLen (λ n. n ≡ 0) x.outputs 16 × IsCondition x.condition)))

expression_is : (x : Expression) → IsExpression x → x ≡ no_expression
expression_is x h =
    let a = h.0 in
    let b = filled 0 (λ n e. e) x.used 4 h.1.0 in
    let c = h.1.1.0 in
    let d = filled 0 (λ n e. e) x.outputs 16 h.1.1.1.0 in
    let e = condition_is x.condition h.1.1.1.1 in
    let all : ◌≡◌ {A = Expression}
    (record { tables = x.tables; used = x.used; width = x.width; outputs = x.outputs; condition = x.condition }) no_expression = cc in
    all

abbrev IsColumns : Columns → Type 0
IsColumns x = (x.tables ≡ 0) × ((x.width ≡ 0) × AllOfLen IsColumn x.columns 16)

abbrev pub IsJob : Job → Type 0
IsJob x = IsColumns x.declared × (IsExpression x.extract × IsExpression x.query)

pub job_is : (x : Job) → IsJob x → x ≡ no_job
job_is x h =
    let a = h.0.0 in
    let b = h.0.1.0 in
    let c = filled no_column column_is x.declared.columns 16 h.0.1.1 in
    let d = expression_is x.extract h.1.0 in
    let e = expression_is x.query h.1.1 in
    let all : ◌≡◌ {A = Job} (record {
      declared = record { tables = x.declared.tables; width = x.declared.width; columns = x.declared.columns };
      extract = x.extract;
      query = x.query;
    }) no_job = cc in
    all
