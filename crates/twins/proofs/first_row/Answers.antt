use mathlib.Core.Path.{ap, ◌∙◌}
use mathlib.Core.List.{List}
use native.Mathlib.Omega.{arith}
use lib.IntN.{ℤ, pos}
use borrow.Author.Rules.{rules}
use Rattle.base.specs.Arrays.{padded}
use Rattle.base.proofs.Places.{tabulate_take}
use Rattle.base.proofs.Arrays.{pass_start, front_turn, front_padded}
use Rattle.words.proofs.Stored.{stored}
use Rattle.model.specs.Tables.{value}
use Rattle.twins.proofs.first_row.Goals as goal

pub loop-c-init : goal.loop-c-init
loop-c-init c = (search rules, pass_start _ _ _ _)

pub loop-c-preserved : goal.loop-c-preserved
loop-c-preserved c = (
  c.loop-c.invariant.0,
  front_turn c.loop-c.invariant.1 c.loop-c-test.true (stored (value c.args.row c.loop-c.c) (omega arith)),
)

pub returns : goal.returns
returns c =
    let row = c.args.row in
    let n = c.args.n in
    front_padded (pos 0) c.loop-c.invariant.1 (omega (arith, c.loop-c-test.false)) c.requires
    ∙ ap (λ (l : List ℤ). padded 16 (pos 0) l) (tabulate_take n row (pos 0) (omega (arith, c.loop-c.invariant.0, c.requires)))
