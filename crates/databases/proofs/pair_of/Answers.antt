-- `databases::pair_of` meets its contract. Assumes nothing.
use native.Mathlib.Omega.{arith}
use mathlib.Core.Path.{ap}
use Rattle.model.specs.Answers.{number_of_kind}
use Rattle.databases.proofs.Pairing.{one_kinds, two_kinds, none_made, pair_one, pair_two}
use Rattle.databases.proofs.pair_of.Goals as goal

pub returns-in-Computable : goal.returns-in-Computable
returns-in-Computable g c = none_made _ _ _ _ _ _ (ap number_of_kind c.in-Computable.is) c.no_database.ensures c.no_database-in-Computable.ensures

pub returns-in-TablesDiffer : goal.returns-in-TablesDiffer
returns-in-TablesDiffer g c =
    let (some, one) = one_kinds c.in-TablesDiffer.is in
    pair_one _ _ _ c.args.rows.now.twin _ some _ one c.one_row_pair.ensures

pub returns-in-ConditionHidden : goal.returns-in-ConditionHidden
returns-in-ConditionHidden g c =
    let two = two_kinds c.in-ConditionHidden.is in
    pair_two _ _ _ c.args.rows.now.twin _ (omega (arith, two)) _ two c.two_row_pair.ensures
