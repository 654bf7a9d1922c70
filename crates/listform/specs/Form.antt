-- A list of comparisons in bytes: of each of n columns lo and hi, then of each of m comparisons op, left, right and number. Values have
-- four bytes, the others one. Left is a column; right is 0 where the number is meant, else a column, one more.
use Rattle.std.specs.Prelude.{Bool, cond, ◌&&◌, List, ◌∷◌, map, ℕ, ◌+◌, ◌*◌, length, replicate, drop, ℤ, pos, ltb}
use Rattle.std.proofs.Math.Option.{Option}
use Rattle.std.specs.Int.Signed.{le_z}
use Rattle.std.specs.List.{list_all}
use Rattle.base.specs.Lists.{flat_map, tabulate, at}
use Rattle.base.specs.Options.{is_some}
use Rattle.words.specs.Word.{value_at, encoded}
use Rattle.model.specs.declared.Bounds.{Bounds}
use Rattle.model.specs.Tables.{Row}
use Rattle.model.specs.Least.{least_row}
use Rattle.job.specs.declared.Comparison.{Comparison}
use Rattle.job.specs.Meaning.{comparison_of}
use Rattle.solver.specs.Lists.{row_or_zeros}
use Rattle.listform.specs.declared.Found.{Found}
use Rattle.listform.specs.declared.Found.TheVariants.{Unmet, Met, NoList}

-- ---- What stands in the bytes

-- a column's bounds, and a comparison, that some bytes begin with
abbrev pub first_bounds : List ℕ → Bounds
first_bounds s = record { lo = value_at 4 s 0; hi = value_at 4 s 4 }

abbrev pub first_comparison : List ℕ → Comparison
first_comparison s = record { op = at s 0; left = at s 1; right = at s 2; number = value_at 4 s 3 }

-- those of a list of n columns and m comparisons
unfoldable pub bounds_in : ℕ → List ℕ → List Bounds
bounds_in n s = tabulate n (λ i. first_bounds (drop (i * 8) s))

unfoldable pub comparisons_in : ℕ → ℕ → List ℕ → List Comparison
comparisons_in n m s = tabulate m (λ i. first_comparison (drop (i * 7) (drop (n * 8) s)))

-- ---- Which bytes are a list

-- each lo is at most its hi
abbrev pub in_order : List Bounds → Bool
in_order bs = list_all (λ b. le_z b.lo b.hi) bs

-- each op is one, and each column that is compared is among n
abbrev pub among : ℕ → List Comparison → Bool
among n ks = list_all (λ k. ltb k.op 5 && (ltb k.left n && ltb k.right (n + 1))) ks

abbrev pub fitting : List Bounds → List Comparison → Bool
fitting bs ks = in_order bs && among (length bs) ks

unfoldable pub is_list : ℕ → ℕ → List ℕ → Bool
is_list n m s = fitting (bounds_in n s) (comparisons_in n m s)

-- ---- The answer

-- the least row of a list, or none
unfoldable pub least : ℕ → ℕ → List ℕ → Option Row
least n m s = least_row (bounds_in n s) (map comparison_of (comparisons_in n m s))

-- whether there is a row, or that the bytes are no list
unfoldable pub found_in : ℕ → ℕ → List ℕ → Found
found_in n m s = cond (is_list n m s) (cond (is_some (least n m s)) Met Unmet) NoList

abbrev pub number_of_found : Found → ℕ
number_of_found Unmet = 0
number_of_found Met = 1
number_of_found NoList = 2

-- the row, or a zero for each column
unfoldable pub row_for : ℕ → ℕ → List ℕ → List ℤ
row_for n m s = cond (is_list n m s) (row_or_zeros n (least n m s)) (replicate n (pos 0))

-- how many bytes of what is written are the answer to a list of n columns: of what is no list the first alone
abbrev pub count_of : Found → ℕ → ℕ
count_of NoList n = 1
count_of Met n = n * 4 + 1
count_of Unmet n = n * 4 + 1

-- the bytes that are written
unfoldable pub written : ℕ → ℕ → List ℕ → List ℕ
written n m s = number_of_found (found_in n m s) ∷ flat_map (row_for n m s) (encoded 4)
