-- A row that is written value by value. Assumes nothing.
use mathlib.Core.Path.{◌≡◌, refl, ◌∙◌}
use mathlib.Core.List.{List, [], ◌∷◌, ◌++◌, append-nil}
use Prim.Native.Nat.{ℕ, ◌+◌, ◌*◌, ◌<◌, ◌≤◌}
use native.Mathlib.Numerals.{add-one}
use native.Mathlib.Omega.{arith}
use lib.ListN.{length, get_or, take, drop, set, length-append}
use lib.Seq.{take-suc, take_all, take_at, length-take-le}
use lib.IntN.{ℤ, pos}
use Rattle.base.specs.Lists.{flat_map}
use Rattle.base.proofs.Lists.{flat_map_append}
use Rattle.words.specs.Word.{encoded, with_value}

module _ {A B : Type 0} (f : A → List B) where
  pub flat_more : (xs : List A) (i : ℕ) (d : A) → i < length xs → flat_map (take (i + 1) xs) f ≡ flat_map (take i xs) f ++ f (get_or xs i d)
  flat_more xs i d h = rw (add-one i, take-suc xs i d h) (flat_map_append (take i xs) (get_or xs i d ∷ []) f ∙ rw append-nil)

-- one value more in the part that is written
pub put_more : (first : ℕ) (row : List ℤ) (i : ℕ) (out : List ℕ) (v : ℤ)
    → i < length row → i * 4 + 1 + 4 ≤ length out → v ≡ get_or row i (pos 0)
    → take (i * 4 + 1) out ≡ first ∷ flat_map (take i row) (encoded 4)
    → take ((i + 1) * 4 + 1) (with_value 4 out (i * 4 + 1) v) ≡ first ∷ flat_map (take (i + 1) row) (encoded 4)
put_more first row i out v h room e before =
    let size : length (take (i * 4 + 1) out) ≡ i * 4 + 1 = length-take-le (i * 4 + 1) out (omega arith) in
    let part = take (i * 4 + 1) out ++ encoded 4 v in
    take_at part (drop (i * 4 + 1 + 4) out) ((i + 1) * 4 + 1) (length-append (take (i * 4 + 1) out) (encoded 4 v) ∙ omega arith)
    ∙ rw (before, e, flat_more (encoded 4) row i (pos 0) h)

pub put_none : (first : ℕ) (out : List ℕ) → 0 < length out → take 1 (set out 0 first) ≡ first ∷ []
put_none first [] h = absurd (omega arith)
put_none first (b ∷ out) h = refl

pub put_all : (first : ℕ) (row : List ℤ) (i : ℕ) (out : List ℕ) → length row ≤ i → i ≤ length row → length out ≡ length row * 4 + 1
    → take (i * 4 + 1) out ≡ first ∷ flat_map (take i row) (encoded 4)
    → out ≡ first ∷ flat_map row (encoded 4)
put_all first row i out h k size done = rw (take_all (i * 4 + 1) out (omega arith), take_all i row h) at done
