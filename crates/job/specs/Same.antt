-- Whether two records are alike, entry by entry: what `==` answers (`derived_is` in proofs/Derived.antt).
use Rattle.std.specs.Prelude.{Bool, ◌&&◌, eqb}
use Rattle.base.specs.Lists.{pairwise}
use Rattle.words.specs.Compare.{eq_z}
use Rattle.job.specs.declared.Column.{Column}
use Rattle.job.specs.declared.Comparison.{Comparison}
use Rattle.job.specs.declared.Clause.{Clause}
use Rattle.job.specs.declared.Condition.{Condition}
use Rattle.job.specs.declared.Expression.{Expression}
use Rattle.job.specs.declared.Columns.{Columns}
use Rattle.job.specs.declared.Job.{Job}

unfoldable pub same_column : Column → Column → Bool
same_column a b = eqb a.table b.table && (eq_z a.bounds.lo b.bounds.lo && eq_z a.bounds.hi b.bounds.hi)

unfoldable pub same_comparison : Comparison → Comparison → Bool
same_comparison a b = eqb a.op b.op && (eqb a.left b.left && (eqb a.right b.right && eq_z a.number b.number))

unfoldable pub same_clause : Clause → Clause → Bool
same_clause a b = eqb a.size b.size && pairwise same_comparison a.comparisons b.comparisons

unfoldable pub same_condition : Condition → Condition → Bool
same_condition a b = eqb a.size b.size && pairwise same_clause a.clauses b.clauses

unfoldable pub same_expression : Expression → Expression → Bool
same_expression a b =
    eqb a.tables b.tables && (pairwise eqb a.used b.used
    && (eqb a.width b.width && (pairwise eqb a.outputs b.outputs
    && same_condition a.condition b.condition)))

unfoldable pub same_columns : Columns → Columns → Bool
same_columns a b = eqb a.tables b.tables && (eqb a.width b.width && pairwise same_column a.columns b.columns)

unfoldable pub same_job : Job → Job → Bool
same_job a b = same_columns a.declared b.declared && (same_expression a.extract b.extract && same_expression a.query b.query)
