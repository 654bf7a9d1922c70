use mathlib.Core.Path.{refl, ap}
use mathlib.Core.List.{List}
use native.Mathlib.Omega.{arith}
use Rattle.base.proofs.Arrays.{pass_start, pass_ahead, front_turn, front_map}
use Rattle.job.specs.declared.Comparison.{Comparison}
use Rattle.job.specs.declared.Clause.{Clause}
use Rattle.job.specs.Record.{no_comparison}
use Rattle.job.proofs.Records.{six}
use Rattle.twins.proofs.rename_clause.Goals as goal

pub loop-k-init : goal.loop-k-init
loop-k-init c = pass_start _ _ _ _

pub rename_comparison-requires : goal.rename_comparison-requires
rename_comparison-requires c = record {
  compares = rw (pass_ahead c.loop-k.invariant no_comparison {k = c.loop-k.k-index} (omega arith)) (c.requires.compares _
      (omega (arith, c.loop-k-test.true, c.loop-k.invariant.size, six c.args.c _ c.well_formed.0)));
  names = c.requires.names;
}

pub loop-k-preserved : goal.loop-k-preserved
loop-k-preserved c = front_turn c.loop-k.invariant (omega (arith, c.loop-k-test.true, c.loop-k.invariant.size))
    (rw (pass_ahead c.loop-k.invariant no_comparison {k = c.loop-k.k-index} (omega arith)) at c.rename_comparison.ensures)

pub returns : goal.returns
returns c =
    let with : List Comparison → Clause = λ ks. record { size = c.args.c.size; comparisons = ks } in
    ap with (front_map _ no_comparison c.args.c.comparisons c.loop-k.invariant
    (omega (arith, c.loop-k-test.false, c.loop-k.invariant.size)) refl)
