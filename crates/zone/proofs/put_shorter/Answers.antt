use native.Mathlib.Omega.{arith}
use mathlib.Core.Path.{◌≡◌, refl}
use Rattle.zone.proofs.Nearer.{listing_turn}
use Rattle.zone.proofs.put_shorter.Goals as goal

pub loop-k-init : goal.loop-k-init
loop-k-init c = record { few = omega arith; size = c.told-list; so_far = refl }

pub loop-k-preserved : goal.loop-k-preserved
loop-k-preserved c =
    (listing_turn c.loop-k.invariant (omega (arith, c.requires.small, c.loop-k-test.true)) c.from-count.ensures).1

pub returns-clause-numbers : goal.returns-clause-numbers
returns-clause-numbers c =
    let all : c.loop-k.k ≡ c.args.n = omega (arith, c.loop-k-test.false, c.loop-k.auto.k-end) in rw all at c.loop-k.invariant.so_far

pub returns-clause-few : goal.returns-clause-few
returns-clause-few c = omega (arith, c.requires.small, c.loop-k.invariant.few, c.loop-k.auto.k-end)
