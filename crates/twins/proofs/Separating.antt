-- Columns and their twins, separated one after the other. Assumes nothing.
use mathlib.Core.Path.{◌≡◌, sym, ap, subst, ◌∙◌}
use mathlib.Core.Bool.{Bool, true, false}
use mathlib.Core.List.{List}
use mathlib.Core.Option.{none, some}
use Prim.Native.Nat.{ℕ, ◌+◌, ◌-◌, ◌<◌, ◌≤◌}
use native.Mathlib.Omega.{arith}
use lib.ListN.{length, drop}
use lib.IntN.{pos}
use lib.Dec.{T, ltb, lt→ltb}
use mir.Facts.{yes_and}
use borrow.Author.Tests.{ne_eqb}
use Rattle.base.proofs.Options.{none_of}
use Rattle.base.proofs.Turns.{first_none, first_more, first_found}
use Rattle.base.specs.Lists.{at}
use Rattle.base.specs.Options.{is_some, first_of}
use Rattle.words.specs.Compare.{number_of_op}
use Rattle.words.specs.declared.Op.{Op}
use Rattle.words.specs.declared.Op.TheVariants.{Less, More}
use Rattle.words.proofs.Ops.{op_number}
use Rattle.job.specs.declared.Comparison.{Comparison}
use Rattle.job.specs.Meaning.{comparison_of}
use Rattle.zone.specs.Zone.{Zone, columns_of, kept}
use Rattle.solver.specs.Solver.{comparison_fits, imposed}
use Rattle.conditions.specs.Meeting.{Ends}
use Rattle.conditions.proofs.Meeting.{some_of, ends_none, ends_some}
use Rattle.twins.specs.Pairs.{columns_by, apart, some_apart}
use Rattle.twins.specs.Uses.{Partners}

-- a column compared with another, as the record has it
abbrev pub coded : ℕ → ℕ → ℕ → Comparison
coded v a b = record { op = v; left = a; right = b + 1; number = pos 0 }

by_column : (o : Op) (a b : ℕ) → comparison_of (coded (number_of_op o) a b) ≡ columns_by o a b
by_column o a b =
    let e : b + 1 - 1 ≡ b = omega arith in
    rw (op_number o, ne_eqb (b + 1) 0 (λ (e : b + 1 ≡ 0). omega arith), e)

module _ (z : Zone) (cs twin : List ℕ) (i : ℕ) (h : i < length cs) where
  abbrev a : ℕ
  a = at cs i

  abbrev b : ℕ
  b = at twin (at cs i)

  -- p is the place at which the code reads the twin, x the zone that it works on, v the number of the op
  module _ {p : ℕ} (is : p ≡ at cs i) {x : Zone} (there : x ≡ z) (o : Op) {v : ℕ} (op : v ≡ number_of_op o) where
    named : comparison_of (coded v (at cs i) (at twin p)) ≡ columns_by o a b
    named = rw (is, op) (by_column o a b)

    pub impose_asks : Partners (columns_of z) cs twin → T (comparison_fits (columns_of x) (comparison_of (coded v (at cs i) (at twin p))))
    impose_asks u =
        let n = columns_of z in
        let fits : T (comparison_fits n (columns_by o a b)) = yes_and (ltb a n) (ltb b n) (lt→ltb a n (u.first_in i h)) (lt→ltb b n (u.second_in i h)) in
        rw there (subst (λ k. T (comparison_fits n k)) (sym named) fits)

    -- what imposing answers and leaves
    abbrev pub Imposed : Bool → Zone → Type 0
    Imposed r y =
        (r ≡ is_some (imposed x (comparison_of (coded v (at cs i) (at twin p)))))
        × (y ≡ kept x (imposed x (comparison_of (coded v (at cs i) (at twin p)))))

    same_zone : imposed x (comparison_of (coded v (at cs i) (at twin p))) ≡ imposed z (columns_by o a b)
    same_zone = rw there (ap (imposed z) named)

    pub stays : {r : Bool} {y : Zone} → Imposed r y → r ≡ false → (imposed z (columns_by o a b) ≡ none) × (y ≡ z)
    stays done no_row =
        let nothing = none_of (imposed x (comparison_of (coded v (at cs i) (at twin p)))) done.0 no_row in
        (sym same_zone ∙ nothing, done.1 ∙ ap (kept x) nothing ∙ there)

    pub found : {r : Bool} {y : Zone} → Imposed r y → r ≡ true → imposed z (columns_by o a b) ≡ some y
    found done some_row =
        let (w, is_w) = some_of (imposed x (comparison_of (coded v (at cs i) (at twin p)))) done.0 some_row in
        sym same_zone ∙ is_w ∙ ap some (sym (done.1 ∙ ap (kept x) is_w))

  -- ---- a turn of the loop: what is left of the columns gives what all of them give
  module _ (rest : first_of (drop i cs) (λ c. apart c (at twin c) z) ≡ some_apart (at twin) cs z) where
    ends : {y : Zone} → apart a b z ≡ some y → Ends (some_apart (at twin) cs z) true y
    ends {y} is = ends_some y (first_found (λ c. apart c (at twin c) z) 0 cs i rest h is)

    pub less_apart : {y : Zone} → imposed z (columns_by Less (at cs i) (at twin (at cs i))) ≡ some y → Ends (some_apart (at twin) cs z) true y
    unfolding apart
    less_apart l = ends (rw l)

    pub more_apart : {y : Zone} → imposed z (columns_by Less (at cs i) (at twin (at cs i))) ≡ none
        → imposed z (columns_by More (at cs i) (at twin (at cs i))) ≡ some y → Ends (some_apart (at twin) cs z) true y
    unfolding apart
    more_apart lower l = ends (rw (lower, l))

    pub none_apart : imposed z (columns_by Less (at cs i) (at twin (at cs i))) ≡ none
        → imposed z (columns_by More (at cs i) (at twin (at cs i))) ≡ none
        → first_of (drop (i + 1) cs) (λ c. apart c (at twin c) z) ≡ some_apart (at twin) cs z
    unfolding apart
    none_apart lower higher = first_more (λ c. apart c (at twin c) z) 0 cs i rest h (rw (lower, higher))

pub no_columns : (z : Zone) (cs twin : List ℕ) (i : ℕ) → length cs ≤ i
    → first_of (drop i cs) (λ c. apart c (at twin c) z) ≡ some_apart (at twin) cs z → (y : Zone) → Ends (some_apart (at twin) cs z) false y
no_columns z cs twin i h rest y = ends_none y (first_none (λ c. apart c (at twin c) z) 0 cs i rest h)
