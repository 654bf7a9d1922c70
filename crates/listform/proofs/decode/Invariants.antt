-- `listform::decode` meets its contract: two passes over the lent slices. Assumes nothing.
use Prim.Native.Nat.{◌*◌}
use lib.ListN.{length, drop}
use Rattle.base.proofs.Arrays.{Pass}
use Rattle.listform.specs.Form.{first_bounds, first_comparison}
use Rattle.listform.proofs.decode.Given as goal

abbrev pub invariant-loop-i : goal.invariant-loop-i
invariant-loop-i l = Pass (λ j. first_bounds (drop (j * 8) l.s)) 0 (length l.initial.bounds) l.i l.initial.bounds l.bounds

abbrev pub invariant-loop-i-2 : goal.invariant-loop-i-2
invariant-loop-i-2 l = Pass (λ j. first_comparison (drop (j * 7) l.behind)) 0 (length l.initial.list) l.i l.initial.list l.list
