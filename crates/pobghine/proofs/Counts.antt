-- What writing answers, for its callers.
use mathlib.Core.Bool.{Bool, true, false, cond}
use mathlib.Core.Path.{◌≡◌, refl}
use Prim.Native.Nat.{ℕ, ◌≤◌}
use native.Mathlib.Omega.{arith}
use lib.ListN.{length}
use lib.Dec.{leb}
use borrow.Author.Tests.{leb-true}
use Rattle.std.specs.Prelude.{Ok, Err}
use Rattle.job.specs.declared.Job.{Job}
use Rattle.layout.specs.Faults.{refusal_of}
use Rattle.pobghine.specs.Records.{is_read, bytes_of, written_of}

-- the bytes that are counted are lent
pub count_fits : (r : Job) (m n : ℕ) → written_of r m ≡ Ok n → n ≤ m
unfolding written_of
count_fits r m n = go (is_read r) (leb (length (bytes_of r)) m) (length (bytes_of r)) refl
  where
    go : (a b : Bool) (k : ℕ) → leb k m ≡ b → cond a (cond b (Ok k) (Err (refusal_of 17 0))) (Err (refusal_of 12 0)) ≡ Ok n → n ≤ m
    go true true k e f = let g : k ≡ n = cc in omega (arith, leb-true k m e, g)
    go true false k e f = let w : ◌≡◌ {A = ℕ} 0 1 = cc in absurd (omega arith)
    go false b k e f = let w : ◌≡◌ {A = ℕ} 0 1 = cc in absurd (omega arith)
