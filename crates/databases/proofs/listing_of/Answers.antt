use native.Mathlib.Omega.{arith}
use Rattle.std.proofs.lemmas.List.{map-set}
use Rattle.base.proofs.Arrays.{pass_start, front_turn, front_size}
use Rattle.model.specs.declared.Held.{Held}
use Rattle.model.specs.Answers.{number_of_held}
use Rattle.databases.proofs.Listing.{listed_all}
use Rattle.databases.proofs.listing_of.Goals as goal

pub loop-c-init : goal.loop-c-init
loop-c-init c = pass_start _ _ _ _

pub listed-requires : goal.listed-requires
listed-requires c = (c.requires, omega (arith, c.loop-c-test.true, front_size {A = Held} Held.NotUsed c.requires, c.requires))

pub loop-c-preserved : goal.loop-c-preserved
loop-c-preserved c = rw (map-set number_of_held c.loop-c.held-items c.loop-c.c c.listed.result)
    (front_turn c.loop-c.invariant (omega (arith, c.loop-c-test.true, front_size {A = Held} Held.NotUsed c.requires)) c.listed.ensures)

pub returns : goal.returns
returns c =
    listed_all _ _ _ c.requires _ c.loop-c.invariant (omega (arith, c.loop-c-test.false, front_size {A = Held} Held.NotUsed c.requires))
