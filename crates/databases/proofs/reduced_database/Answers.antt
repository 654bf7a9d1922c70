-- `databases::reduced_database` meets its contract. Assumes nothing.
use mathlib.Core.Path.{sym, ap, ◌∙◌}
use mathlib.Core.Bool.{Bool}
use mathlib.Core.List.{List}
use borrow.Author.Tests.{not-true, not-false}
use Rattle.databases.specs.Databases.{database_record, reduced_record}
use Rattle.databases.proofs.reduced_database.Goals as goal

pub returns-then-not-uses_other : goal.returns-then-not-uses_other
unfolding reduced_record
returns-then-not-uses_other c =
    let alike = sym c.uses_other.ensures ∙ not-true _ c.if-not-uses_other.true-raw in
    rw alike c.no_database.ensures

pub returns : goal.returns
unfolding reduced_record
returns c =
    let a = c.args in
    let other = sym c.uses_other.ensures ∙ not-false _ c.if-not-uses_other.false-raw in
    rw other (c.database_of.ensures ∙ ap (λ (ps : List Bool). database_record a.k.now ps a.row) c.present.ensures)
