-- `databases::row_database` meets its contract. Assumes nothing.
use mathlib.Core.Path.{ap, ◌∙◌}
use mathlib.Core.Bool.{Bool}
use mathlib.Core.List.{List}
use Rattle.databases.specs.Databases.{database_record, row_record}
use Rattle.databases.proofs.row_database.Goals as goal

pub returns : goal.returns
unfolding row_record
returns c =
    let a = c.args in
    c.database_of.ensures ∙ ap (λ (ps : List Bool). database_record a.k.now ps a.row) c.present.ensures
