-- `listform::put` meets its contract: the part that it has written is the byte and the first values. Assumes nothing.
use Rattle.listform.specs.Form.{number_of_found}
use mathlib.Core.Path.{◌≡◌}
use mathlib.Core.List.{◌∷◌}
use Prim.Native.Nat.{◌+◌, ◌*◌}
use lib.ListN.{length, take}
use Rattle.base.specs.Lists.{flat_map}
use Rattle.words.specs.Word.{encoded}
use Rattle.listform.proofs.put.Given as goal

abbrev pub invariant-loop-i : goal.invariant-loop-i
invariant-loop-i l = (length l.out ≡ length l.row * 4 + 1) × (take (l.i * 4 + 1) l.out ≡ number_of_found l.fn.found ∷ flat_map (take l.i l.row) (encoded 4))
