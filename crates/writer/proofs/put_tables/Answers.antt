-- `writer::put_tables` meets its contract. Assumes nothing.
use mathlib.Core.Path.{◌≡◌, refl}
use mathlib.Core.List.{[], ◌∷◌}
use Prim.Native.Nat.{ℕ, ◌+◌, ◌<◌, ◌≤◌, min}
use native.Mathlib.Numerals.{add-one}
use native.Mathlib.Omega.{arith}
use lib.ListN.{length, take, drop, length-take, drop_of_length-le}
use lib.Seq.{drop-cons, get_or-take}
use Rattle.base.proofs.Bytes.{left_all, left_room, left_next, left_none}
use Rattle.job.specs.Meaning.{table_numbers}
use Rattle.job.proofs.Meaning.{table_number}
use Rattle.writer.specs.Parts.{tables_bytes}
use Rattle.writer.proofs.put_tables.Goals as goal

one_left : (n t : ℕ) → t < min n 4 → drop t (take n table_numbers) ≡ t ∷ drop (t + 1) (take n table_numbers)
one_left n t h =
    let few : t < length (take n table_numbers) = omega (arith, length-take n table_numbers) in
    rw (add-one, drop-cons (take n table_numbers) t 0 few, get_or-take n table_numbers t 0 (omega arith), table_number t (omega arith)) refl

none_left : (n t : ℕ) → min n 4 ≤ t → drop t (take n table_numbers) ≡ []
none_left n t h = drop_of_length-le (take n table_numbers) (omega (arith, length-take n table_numbers))

pub loop-t-init : goal.loop-t-init
unfolding tables_bytes
loop-t-init c = left_all c.requires

pub put_table-requires : goal.put_table-requires
put_table-requires c = left_room (one_left c.args.k.now.tables c.loop-t.t (omega arith)) c.loop-t.invariant

pub loop-t-preserved : goal.loop-t-preserved
loop-t-preserved c = left_next (one_left c.args.k.now.tables c.loop-t.t (omega arith)) c.loop-t.invariant c.put_table.ensures

pub returns : goal.returns
unfolding tables_bytes
returns c = left_none (none_left c.args.k.now.tables c.loop-t.t (omega arith)) c.loop-t.invariant
