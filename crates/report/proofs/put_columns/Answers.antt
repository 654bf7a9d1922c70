-- `report::put_columns` meets its contract. Assumes nothing.
use native.Mathlib.Numerals.{add-one}
use native.Mathlib.Omega.{arith}
use lib.ListN.{drop_of_length-le}
use lib.Seq.{drop-cons}
use Rattle.model.specs.declared.Held.TheVariants.{NotUsed}
use Rattle.base.proofs.Bytes.{left_next, left_none}
use Rattle.report.proofs.put_columns.Goals as goal

pub loop-c-preserved : goal.loop-c-preserved
loop-c-preserved c =
    let last = drop-cons c.args.columns.now c.loop-c.c-index NotUsed (omega arith) in
    rw add-one (left_next last c.loop-c.invariant (rw (c.from-in-loop-c.ensures, c.from.ensures) at c.put_field.ensures))

pub returns : goal.returns
returns c = left_none (drop_of_length-le c.args.columns.now (omega arith)) c.loop-c.invariant
