-- Which job a record stands for, and the record of a job.
use Rattle.std.specs.Prelude.{cond, List, [], ◌∷◌, ◌++◌, map, ℕ, suc, ◌-◌, length, take, ℤ, pos, eqb}
use Rattle.base.specs.Lists.{filter}
use Rattle.base.specs.Arrays.{padded}
use Rattle.model.specs.Tables as model
use Rattle.model.specs.Tables.{Table, Against, column, number, columns_of}
use Rattle.model.specs.declared.Bounds.{Bounds}
use Rattle.words.specs.Compare.{op_at, number_of_op}
use Rattle.job.specs.declared.Column.{Column}
use Rattle.job.specs.declared.Comparison.{Comparison}
use Rattle.job.specs.declared.Clause.{Clause}
use Rattle.job.specs.declared.Condition.{Condition}
use Rattle.job.specs.declared.Expression.{Expression}
use Rattle.job.specs.declared.Columns.{Columns}
use Rattle.job.specs.declared.Job.{Job}
use Rattle.job.specs.Record.{no_column, no_comparison, no_clause}

-- ---- What a record means

-- the right side of a comparison: with 0 the value, else the column one below
abbrev pub side_of : ℕ → ℤ → Against
side_of r v = cond (eqb r 0) (number v) (column (r - 1))

abbrev pub comparison_of : Comparison → model.Comparison
comparison_of k = record { op = op_at k.op; left = k.left; right = side_of k.right k.number }

abbrev pub clause_of : Clause → model.Clause
clause_of c = map comparison_of (take c.size c.comparisons)

abbrev pub condition_of : Condition → model.Condition
condition_of k = map clause_of (take k.size k.clauses)

unfoldable pub expression_of : Expression → model.Expression
expression_of e = record {
  used = take e.tables e.used;
  outputs = take e.width e.outputs;
  condition = condition_of e.condition;
}

abbrev pub bounds_of : Column → Bounds
bounds_of c = c.bounds

-- the columns of a table, in declared order
abbrev pub table_in : List Column → ℕ → Table
table_in cs t = map bounds_of (filter (λ c. eqb c.table t) cs)

-- the tables that there can be
abbrev pub table_numbers : List ℕ
table_numbers = 0 ∷ 1 ∷ 2 ∷ 3 ∷ []

-- the job of declared columns, an extract and a query
unfoldable pub job_of : Columns → Expression → Expression → model.Job
job_of k extract query = record {
  tables = map (table_in (take k.width k.columns)) (take k.tables table_numbers);
  extract = expression_of extract;
  query = expression_of query;
}

-- the record of the three
abbrev pub problem : Columns → Expression → Expression → Job
problem k extract query = record { declared = k; extract = extract; query = query }

abbrev pub meaning_of : Job → model.Job
meaning_of r = job_of r.declared r.extract r.query

-- ---- The record of a job

abbrev pub side_number : Against → ℕ
side_number (column c) = suc c
side_number (number v) = 0

abbrev pub side_value : Against → ℤ
side_value (column c) = pos 0
side_value (number v) = v

abbrev pub comparison_record : model.Comparison → Comparison
comparison_record k = record { op = number_of_op k.op; left = k.left; right = side_number k.right; number = side_value k.right }

abbrev pub clause_record : model.Clause → Clause
clause_record c = record { size = length c; comparisons = padded 6 no_comparison (map comparison_record c) }

abbrev pub condition_record : model.Condition → Condition
condition_record k = record { size = length k; clauses = padded 4 no_clause (map clause_record k) }

unfoldable pub expression_record : model.Expression → Expression
expression_record e = record {
  tables = length e.used;
  used = padded 4 0 e.used;
  width = length e.outputs;
  outputs = padded 16 0 e.outputs;
  condition = condition_record e.condition;
}

abbrev pub column_record : ℕ → Bounds → Column
column_record t b = record { table = t; bounds = b }

-- the columns of some tables, which are numbered from t on
abbrev pub column_records : ℕ → List Table → List Column
column_records t [] = []
column_records t (bs ∷ ts) = map (column_record t) bs ++ column_records (suc t) ts

unfoldable pub record_of : model.Job → Job
record_of j = record {
  declared = record {
    tables = length j.tables;
    width = length (columns_of j.tables);
    columns = padded 16 no_column (column_records 0 j.tables);
  };
  extract = expression_record j.extract;
  query = expression_record j.query;
}
