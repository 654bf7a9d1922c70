-- `databases::one_row_pair` meets its contract. Assumes nothing.
use mathlib.Core.Path.{ap, ◌∙◌}
use Rattle.model.specs.Answers.{number_of_kind}
use Rattle.databases.specs.Databases.{row_record, reduced_record}
use Rattle.databases.proofs.Pairing.{first_read, one_reduced, one_none}
use Rattle.databases.proofs.one_row_pair.Goals as goal

pub returns-in-TablesDiffer : goal.returns-in-TablesDiffer
returns-in-TablesDiffer g c =
    let k = c.args.k.now in let extract = c.args.extract.now in let query = c.args.query.now in
    let row = first_read k.width c.args.z.now c.least_of.ensures c.requires.first_in c.first_row-row.ensures in
    one_reduced k extract query _ (c.row_database-first.ensures ∙ ap (row_record k query) row) _ (ap number_of_kind c.in-TablesDiffer.is)
    (c.reduced_database-second.ensures ∙ ap (reduced_record k extract query) row)

pub returns-in_default : goal.returns-in_default
returns-in_default g c =
    let k = c.args.k.now in let query = c.args.query.now in
    let row = first_read k.width c.args.z.now c.least_of.ensures c.requires.first_in c.first_row-row.ensures in
    one_none k c.args.extract.now query _ (c.row_database-first.ensures ∙ ap (row_record k query) row) c.args.kind c.in_default.not-TablesDiffer
    c.no_database-second.ensures
