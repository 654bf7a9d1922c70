use native.Mathlib.Omega.{arith}
use mathlib.Core.Path.{sym, ap, ◌∙◌}
use mathlib.Core.List.{List}
use Prim.Native.Nat.{◌<◌}
use lib.IntN.{ℤ, pos}
use Rattle.base.proofs.Arrays.{pass_start, front_turn, front_size, front_slice}
use Rattle.words.proofs.Stored.{stored}
use Rattle.model.specs.Tables.{value}
use Rattle.databases.specs.declared.Database.{Database}
use Rattle.databases.specs.Databases.{database_record}
use Rattle.databases.proofs.database_of.Goals as goal
use Rattle.databases.proofs.database_of.Goals.{then-present-from, else-present-from}

pub loop-c-init : goal.loop-c-init
loop-c-init c = pass_start _ _ _ _

pub loop-c-preserved : goal.loop-c-preserved
loop-c-preserved c =
    let more : c.loop-c.c < c.args.k.now.width = omega (arith, c.loop-c-test.true, front_size {A = ℤ} (pos 0) c.requires.width) in
    front_turn c.loop-c.invariant more (elim c.if-present-from.branch [
      | then-present-from w ↦ w.value-is ∙ stored (value c.args.row c.loop-c.c) (omega arith) ∙ sym (rw (← c.from.ensures, w.if-present-from.true))
      | else-present-from w ↦ w.value-is ∙ sym (rw (← c.from.ensures, w.if-present-from.false))
    ])

pub returns : goal.returns
unfolding database_record
returns c =
    let with : List ℤ → Database = λ vs. record { present = c.args.present; values = vs } in
    let room = c.requires.width in
    ap with (front_slice (pos 0) room c.loop-c.invariant (omega (arith, c.loop-c-test.false, front_size {A = ℤ} (pos 0) room)))
