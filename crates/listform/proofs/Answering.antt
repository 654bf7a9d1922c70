-- The answer, from what was found and a row. Assumes nothing.
use mathlib.Core.Path.{◌≡◌, sym, ◌∙◌}
use mathlib.Core.Bool.{cond}
use mathlib.Core.List.{List, ◌∷◌, ◌++◌}
use Prim.Native.Nat.{ℕ}
use native.Mathlib.Omega.{arith}
use lib.ListN.{length, take, replicate}
use lib.Seq.{length-take-le, take_at}
use lib.IntN.{ℤ, pos}
use Rattle.std.proofs.lemmas.List.{take-replicate}
use Rattle.base.specs.Lists.{flat_map}
use Rattle.words.specs.Word.{encoded}
use Rattle.model.specs.declared.Bounds.{Bounds}
use Rattle.job.specs.declared.Comparison.{Comparison}
use Rattle.solver.specs.Lists.{row_or_zeros}
use Rattle.listform.specs.Form.{is_list, least, number_of_found, found_in, row_for, written}
use Rattle.listform.specs.declared.Found.{Found}
use Rattle.listform.specs.Uses.{Room}

-- `solve` has the first n and m places of the arrays; `found` is what it says, and `row` what it leaves
module _ (n m : ℕ) (s : List ℕ) {out : List ℕ} (u : Room n m s out) (b : Bounds) (k : Comparison) where
  abbrev w : ℕ
  w = length (take n (replicate 32 b))

  abbrev h : ℕ
  h = length (take m (replicate 255 k))

  w_is : w ≡ n
  w_is = length-take-le n (replicate 32 b) (omega (arith, u.columns))

  h_is : h ≡ m
  h_is = length-take-le m (replicate 255 k) (omega (arith, u.comparisons))

  module _ {found : Found} (e : found ≡ found_in w h s) where
    found_is : found_in n m s ≡ found
    found_is = sym (e ∙ rw (w_is, h_is))

    -- the row stands in the first places of an array, and is put behind the number
    module _ {row : List ℤ} (rest : List ℤ) (same : length row ≡ length (take n (replicate 32 (pos 0))))
        (f : row ≡ cond (is_list w h s) (row_or_zeros w (least w h s)) (take n (replicate 32 (pos 0)))) where
      row_is : take n (row ++ rest) ≡ cond (is_list n m s) (row_or_zeros n (least n m s)) (replicate n (pos 0))
      row_is = take_at row rest n (same ∙ length-take-le n (replicate 32 (pos 0)) (omega (arith, u.columns)))
          ∙ rw (w_is, h_is, take-replicate n 32 (pos 0) u.columns) at f

      pub bytes : number_of_found found ∷ flat_map (take n (row ++ rest)) (encoded 4) ≡ written n m s
      unfolding written row_for
      bytes = rw (row_is, found_is)
