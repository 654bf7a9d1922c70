-- `databases::two_row_pair` meets its contract. Assumes nothing.
use mathlib.Core.Path.{ap, ◌∙◌}
use Rattle.databases.specs.Databases.{row_record}
use Rattle.databases.proofs.Pairing.{first_read, second_read, two_made}
use Rattle.databases.proofs.two_row_pair.Goals as goal

pub returns : goal.returns
returns g c =
    let k = c.args.k.now in let query = c.args.query.now in let twin = c.args.rows.now.twin in
    let read = c.least_of-least.ensures in
    let one = first_read k.width c.args.z.now read c.requires.first_in c.first_row-one.ensures in
    let other = second_read k.width c.args.z.now read twin c.second_row-other.ensures in
    two_made k query _ twin (c.row_database.ensures ∙ ap (row_record k query) one)
    (c.row_database-2.ensures ∙ ap (row_record k query) other)
