use mathlib.Core.Path.{refl, ap}
use mathlib.Core.List.{List, []}
use native.Mathlib.Omega.{arith}
use Rattle.base.proofs.Arrays.{pass_start, pass_ahead, front_turn, front_map}
use Rattle.job.specs.declared.Clause.{Clause}
use Rattle.job.specs.declared.Condition.{Condition}
use Rattle.job.proofs.Records.{sized_condition}
use Rattle.twins.specs.Records.{renamed_condition}
use Rattle.twins.proofs.TwinRows.rename.Goals as goal

-- what stands past the end of an array
abbrev none : Clause
none = record { size = 0; comparisons = [] }

pub loop-c-init : goal.loop-c-init
loop-c-init c = pass_start _ _ _ _

pub rename_clause-requires : goal.rename_clause-requires
rename_clause-requires c =
    let four = (sized_condition c.args.k _ c.well_formed.1.0).clauses in
    record {
      compares = rw (pass_ahead c.loop-c.invariant none {k = c.loop-c.c-index} (omega arith)) (c.requires.compares _
          (omega (arith, c.loop-c-test.true, c.loop-c.invariant.size, four)));
      names = c.requires.names;
    }

pub loop-c-preserved : goal.loop-c-preserved
loop-c-preserved c = front_turn c.loop-c.invariant (omega (arith, c.loop-c-test.true, c.loop-c.invariant.size))
    (rw (pass_ahead c.loop-c.invariant none {k = c.loop-c.c-index} (omega arith)) at c.rename_clause.ensures)

pub returns : goal.returns
unfolding renamed_condition
returns c =
    let with : List Clause → Condition = λ cs. record { size = c.args.k.size; clauses = cs } in
    ap with (front_map _ none c.args.k.clauses c.loop-c.invariant (omega (arith, c.loop-c-test.false, c.loop-c.invariant.size)) refl)
