-- How long the texts are at most. Assumes nothing.
use mathlib.Core.Bool.{Bool}
use mathlib.Core.List.{◌++◌}
use Prim.Native.Nat.{ℕ, zero, suc, ◌*◌, ◌≤◌, ◌<◌}
use native.Mathlib.Omega.{arith}
use lib.ListN.{length, length-append}
use lib.Dec.{T}
use Rattle.base.specs.Lists.{flat_map, tabulate}
use Rattle.model.specs.Tables.{Job}
use Rattle.model.specs.WellFormed.{well_formed}
use Rattle.model.specs.Verdict.{columns, first_kind, kind1, kind2, kind3, kind4, kind_of, listing_of}
use Rattle.model.proofs.Formed.{well_formed_lem}
use Rattle.model.proofs.Theorems.{listing_neither}
use Rattle.layout.specs.declared.Fault.{Fault}
use Rattle.layout.specs.Faults.{number_of_fault}
use Rattle.report.specs.Text.{ascii, digits, field, refusal_text, verdict_text}
use Rattle.report.specs.Printed.{job_text}
use Rattle.report.proofs.Digits.{digits_few}
use Rattle.report.proofs.Numbers.{fault_byte}

-- a byte has at most three digits
byte_few : (n : ℕ) → n < 256 → length (digits n) ≤ 3
byte_few n h = digits_few 2 n (omega arith)

pub refusal_most : (f : Fault) (at : ℕ) → at < 18446744073709551616 → length (refusal_text (number_of_fault f) at) ≤ 81
unfolding refusal_text
refusal_most f at word =
    let number = number_of_fault f in
    let one = byte_few number (fault_byte f) in
    let two = digits_few 19 at (omega arith) in
    rw (length-append (field "refused " number ++ field " at " at) (ascii "\n"), length-append (field "refused " number) (field " at " at))
    (omega (arith, one, two))

columns_most : (f : ℕ → ℕ) → ((i : ℕ) → f i < 256) → (n : ℕ) → length (flat_map (tabulate n f) (field " ")) ≤ 4 * n
columns_most f small zero = omega arith
columns_most f small (suc n) =
    let one = byte_few (f 0) (small 0) in
    let rest = columns_most (λ i. f (suc i)) (λ i. small (suc i)) n in
    rw (length-append (field " " (f 0)) (flat_map (tabulate n (λ i. f (suc i))) (field " "))) (omega (arith, one, rest))

first_few : (a b c d : Bool) → first_kind a b c d ≤ 4
first_few a b c d = grind arith

kind_few : (j : Job) → kind_of j < 256
unfolding kind_of
kind_few j = let few = first_few (kind1 j) (kind2 j) (kind3 j) (kind4 j) in omega (arith, few)

verdict_most : (kind : ℕ) → kind < 256 → (f : ℕ → ℕ) → ((i : ℕ) → f i < 256) → (n : ℕ) → n ≤ 16 → length (verdict_text kind (tabulate n f)) ≤ 81
unfolding verdict_text
verdict_most kind byte f bytes n few =
    let one = byte_few kind byte in
    let rest = columns_most f bytes n in
    rw (
      length-append (field "kind " kind ++ ascii "\ncolumns" ++ flat_map (tabulate n f) (field " ")) (ascii "\n"),
      length-append (field "kind " kind ++ ascii "\ncolumns") (flat_map (tabulate n f) (field " ")),
      length-append (field "kind " kind) (ascii "\ncolumns"),
    )
    (omega (arith, one, rest))

pub job_most : (j : Job) → T (well_formed j) → length (job_text j) ≤ 81
job_most j w =
    verdict_most (kind_of j) (kind_few j) (listing_of j) (λ i. omega (arith, listing_neither j i)) (length (columns j))
    (well_formed_lem j w).limits.few_columns
