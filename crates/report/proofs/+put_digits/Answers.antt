use mathlib.Core.Path.{◌≡◌, refl}
use mathlib.Core.List.{List, [], ◌∷◌, ◌++◌}
use Prim.Native.Nat.{ℕ, ◌+◌, ◌%◌, ◌/◌, ◌<◌, ◌≤◌}
use native.Mathlib.Omega.{arith}
use Rattle.base.specs.Bytes.{Room, Puts}
use Rattle.base.specs.declared.Output.{Output}
use Rattle.base.proofs.Bytes.{nothing, and_then_lem, room_first, room_next}
use Rattle.report.specs.Text.{digits}
use Rattle.report.proofs.Digits.{digits_one, digits_more}
use Rattle.report.proofs.+put_digits.Goals as goal
use Rattle.report.proofs.+put_digits.Goals.{then-n-ge10, else-n-ge10}

-- what is put before the last digit
record Front (n : ℕ) (old out : Output) : Type 0 where
  front : List ℕ
  puts : Puts old out front
  is : digits n ≡ front ++ ((48 + n % 10) ∷ [])

module _ {n : ℕ} {old out : Output} where
  more : 10 ≤ n → {new : Output} → out ≡ new → Puts old new (digits (n / 10)) → Front n old out
  more h e x = record { front = digits (n / 10); puts = rw e x; is = digits_more n h }

  none : n < 10 → Room old (digits n) → out ≡ old → Front n old out
  none h r e =
      let last : n % 10 ≡ n = omega arith in
      record { front = []; puts = rw e (nothing old (omega (arith, r.room))); is = rw (digits_one n h, last) refl }

  module _ (f : Front n old out) where
    last_room : Room old (digits n) → Room out ((48 + n % 10) ∷ [])
    last_room r = room_next f.front _ (rw f.is at r) f.puts

    last_put : {new : Output} → Puts out new ((48 + n % 10) ∷ []) → Puts old new (digits n)
    last_put x = rw f.is (and_then_lem f.puts x)

pub put_digits-requires : goal.put_digits-requires
put_digits-requires t c =
    let n = c.args.n in
    (omega arith, room_first (digits (n / 10)) ((48 + n % 10) ∷ []) (rw (digits_more n c.if-n-ge10.true) at c.requires))

pub put-requires : goal.put-requires
put-requires t c =
    elim c.if-n-ge10.branch [
      | then-n-ge10 w ↦ last_room (more w.if-n-ge10.true w.out-is w.put_digits.ensures) c.requires
      | else-n-ge10 w ↦ last_room (none w.if-n-ge10.false c.requires w.out-is) c.requires
    ]

pub returns : goal.returns
returns t c =
    elim c.if-n-ge10.branch [
      | then-n-ge10 w ↦ last_put (more w.if-n-ge10.true w.out-is w.put_digits.ensures) c.put.ensures
      | else-n-ge10 w ↦ last_put (none w.if-n-ge10.false c.requires w.out-is) c.put.ensures
    ]
