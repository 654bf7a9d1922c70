-- `verdict::decide` meets its contract. Assumes nothing.
use native.Mathlib.Omega.{arith}
use mathlib.Core.Path.{refl}
use Rattle.verdict.specs.Uses.{Decides}
use Rattle.verdict.proofs.Ready.{sizes, width_most, columns_most}
use Rattle.verdict.proofs.decide.Goals as goal

pub of-rows-requires : goal.of-rows-requires
of-rows-requires c =
    width_most (record { given = c.requires; both = refl }) (sizes c.well_formed)

pub decide_sized-requires : goal.decide_sized-requires
decide_sized-requires c = record {
  decides = record { given = c.requires; both = rw c.output_columns.ensures at c.of-rows.ensures };
  room = omega arith;
  most = omega arith;
}

pub decide_sized-requires-2 : goal.decide_sized-requires-2
decide_sized-requires-2 c =
    let decides : Decides c.args.k c.args.extract c.args.query c.of-rows.result = record { given = c.requires; both = rw c.output_columns.ensures at c.of-rows.ensures } in
    let most = columns_most decides (sizes c.well_formed) in
    record { decides = decides; room = omega (arith, most); most = omega arith }
