-- The ops and their numbers. Assumes nothing.
use mathlib.Core.Path.{◌≡◌, refl, ap, ◌∙◌}
use lib.Dec.{leb, leb→le}
use mathlib.Core.Bool.{false}
use borrow.Author.Tests.{ne_eqb}
use Rattle.base.proofs.Tests.{same_test}
use Rattle.std.specs.Prelude.{Some, Result, Ok, Err}
use Rattle.std.specs.Option.{is_some}
use Rattle.std.specs.Result.{is_ok, result_ok}
use Prim.Native.Nat.{ℕ, zero, suc, ◌≤◌}
use native.Mathlib.Omega.{arith}
use Rattle.words.specs.Compare.{op_of, op_at, number_of_op}
use Rattle.words.specs.declared.Op.{Op}
use Rattle.words.specs.declared.UnknownOp.{UnknownOp}
use Rattle.words.specs.declared.Op.TheVariants.{Less, AtMost, Equal, AtLeast, More}

pub op_at_lem : (n : ℕ) → n ≤ 4 → op_of n ≡ Some (op_at n)
op_at_lem zero h = refl
op_at_lem (suc zero) h = refl
op_at_lem (suc (suc zero)) h = refl
op_at_lem (suc (suc (suc zero))) h = refl
op_at_lem (suc (suc (suc (suc zero)))) h = refl
op_at_lem (suc (suc (suc (suc (suc n))))) h = absurd (omega arith)

pub op_number : (o : Op) → op_at (number_of_op o) ≡ o
op_number Less = refl
op_number AtMost = refl
op_number Equal = refl
op_number AtLeast = refl
op_number More = refl

-- and back
pub op_back : (n : ℕ) → n ≤ 4 → number_of_op (op_at n) ≡ n
op_back zero h = refl
op_back (suc zero) h = refl
op_back (suc (suc zero)) h = refl
op_back (suc (suc (suc zero))) h = refl
op_back (suc (suc (suc (suc zero)))) h = refl
op_back (suc (suc (suc (suc (suc n))))) h = absurd (omega arith)

-- a number above 4 is no op's, and any other is one's
some_op : (n : ℕ) → is_some (op_of n) ≡ leb n 4
some_op zero = refl
some_op (suc zero) = refl
some_op (suc (suc zero)) = refl
some_op (suc (suc (suc zero))) = refl
some_op (suc (suc (suc (suc zero)))) = refl
some_op (suc (suc (suc (suc (suc n))))) =
    let k = suc (suc (suc (suc (suc n)))) in
    rw (
      ne_eqb k 0 (λ e. omega arith),
      ne_eqb k 1 (λ e. omega arith),
      ne_eqb k 2 (λ e. omega arith),
      ne_eqb k 3 (λ e. omega arith),
      ne_eqb k 4 (λ e. omega arith),
    )
    (same_test false (leb k 4) absurd (λ t. absurd (omega (arith, leb→le k 4 t))))

ok_some : (r : Result Op UnknownOp) → is_ok r ≡ is_some (result_ok r)
ok_some (Ok o) = refl
ok_some (Err e) = refl

pub op_listed : (n : ℕ) (r : Result Op UnknownOp) → result_ok r ≡ op_of n → is_ok r ≡ leb n 4
op_listed n r e = ok_some r ∙ ap is_some e ∙ some_op n
