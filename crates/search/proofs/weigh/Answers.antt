use borrow.Author.Rules.{rules}
use native.Mathlib.Omega.{arith}
use mathlib.Core.Path.{ap, ◌∙◌}
use mathlib.Core.List.{List}
use Prim.Native.Nat.{ℕ, ◌<◌, ◌≤◌}
use lib.ListN.{length}
use Rattle.zone.specs.declared.Constraint.{Constraint}
use Rattle.zone.specs.Zone.{allows}
use Rattle.base.specs.Lists.{filter}
use Rattle.base.proofs.Arrays.{pass_start, front_turn, front_size, front_slice}
use Rattle.search.proofs.Weighing.{weighed}
use Rattle.search.proofs.weigh.Goals as goal

pub loop-q-init : goal.loop-q-init
loop-q-init g c = pass_start _ _ _ _

pub count_allowed-requires : goal.count_allowed-requires
count_allowed-requires g c =
    let more : c.loop-q.q < 4 = omega (arith, c.loop-q-test.true, front_size {A = ℕ} 13 c.requires.few, c.requires.few) in
    (search rules, rw c.as_slice.ensures (c.requires.choices c.loop-q.q more))

pub loop-q-preserved : goal.loop-q-preserved
loop-q-preserved g c =
    front_turn c.loop-q.invariant (omega (arith, c.loop-q-test.true, front_size {A = ℕ} 13 c.requires.few))
    (c.count_allowed.ensures ∙ ap (λ (us : List Constraint). length (filter (allows c.args.z.now) us)) c.as_slice.ensures)

pub returns : goal.returns
returns g c =
    let past : c.args.k.now.clauses ≤ c.loop-q.q = omega (arith, c.loop-q-test.false, front_size {A = ℕ} 13 c.requires.few) in
    weighed c.args.k.now _ (front_slice 13 c.requires.few c.loop-q.invariant past)
