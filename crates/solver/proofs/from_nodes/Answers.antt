use mathlib.Core.Path.{refl, sym, ◌∙◌}
use native.Mathlib.Omega.{arith}
use native.Mathlib.Numerals.{add-one}
use lib.ListN.{length}
use lib.IntN.{pos}
use Rattle.base.proofs.Arrays.{pass_start, front_turn, front_list}
use Rattle.words.proofs.Stored.{stored}
use Rattle.solver.specs.Solver.{row_of}
use Rattle.solver.proofs.Nodes.{row_length, row_at}
use Rattle.solver.proofs.from_nodes.Goals as goal

pub loop-i-init : goal.loop-i-init
loop-i-init c = pass_start _ _ _ _

pub from_biased-requires : goal.from_biased-requires
from_biased-requires c =
    let u = c.requires in
    let l = c.loop-i in
    let k = c.loop-i-test.true in
    rw (add-one _) (u.low _ (omega (arith, l.invariant.size, k)), u.high _ (omega (arith, l.invariant.size, k)))

pub loop-i-preserved : goal.loop-i-preserved
loop-i-preserved c =
    let s = c.args in
    let u = c.requires in
    let l = c.loop-i in
    let k = c.loop-i-test.true in
    front_turn l.invariant (omega (arith, l.invariant.size, k))
    (stored _ c.from_biased.type_inv ∙ c.from_biased.ensures ∙ sym (row_at s.x.now _ (omega (arith, u.size, l.invariant.size, k))))

pub returns : goal.returns
returns c =
    let s = c.args in
    let u = c.requires in
    let l = c.loop-i in
    front_list (pos 0) (row_of s.x.now) l.invariant (omega (arith, l.invariant.size, c.loop-i-test.false)) refl
    (row_length s.x.now (length s.row.now) u.size)
