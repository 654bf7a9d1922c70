-- `zone::allows` meets its contract: it takes one look at the entry that the definition names. Assumes nothing.
use native.Mathlib.Omega.{arith}
use Rattle.zone.proofs.Ranges.{place_most}
use Rattle.zone.proofs.Looks.{look_allows}
use Rattle.zone.proofs.allows.Goals as goal

pub overflow_add-result : goal.overflow_add-result
overflow_add-result c = omega (arith, place_most c.requires.in_array c.requires.right_in c.requires.left_in)

pub returns : goal.returns
returns c = look_allows c.requires
