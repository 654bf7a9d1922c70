-- Ways and choices that are put into records one after the other. Assumes nothing.
use mathlib.Core.Path.{◌≡◌, refl, sym, ◌∙◌}
use mathlib.Core.List.{List, [], ◌∷◌, map}
use Prim.Native.Nat.{ℕ, ◌+◌, ◌*◌, ◌<◌, ◌≤◌}
use native.Mathlib.Numerals.{add-one}
use native.Mathlib.Omega.{arith}
use lib.ListN.{length, get_or, drop, set, length-set, length-map, drop_of_length-le}
use lib.Seq.{drop-cons, get_or-set_same, get_or-set_other, ext_get_or}
use borrow.Author.Count.{below_more}
use Rattle.base.proofs.Places.{map_at}
use Rattle.model.specs.Tables.{Clause, Condition}
use Rattle.job.specs.Record.{no_comparison}
use Rattle.job.specs.Meaning.{comparison_of}
use Rattle.zone.specs.declared.Constraint.{Constraint}
use Rattle.solver.specs.declared.Constraints.{Constraints}
use Rattle.solver.specs.Comparisons.{negations_of}
use Rattle.solver.proofs.Progress.{Next}
use Rattle.breaking.specs.declared.Ways.{Ways}
use Rattle.breaking.specs.Breaking.{with_way, with_second, with_clause, ways_of, choices_of}
use Rattle.breaking.specs.Places.{ways_in, no_ways, choices_in}
use Rattle.breaking.proofs.Sizes.{spare, four_choices, choice_at, choice_past}

-- ---- The ways of a clause

-- the ways of the first i comparisons, to which those of the others are still to be added
pub record Putting (c : Clause) (i : ℕ) (w : Ways) : Type 0 where
  pub few : w.count ≤ 2 * i
  pub so_far : with_clause (ways_in w) (drop i c) ≡ ways_of c

pub put_start : (c : Clause) (list : List Constraint) → Putting c 0 (record { count = 0; list = list })
unfolding ways_of
put_start c list = record { few = omega arith; so_far = refl }

module _ {c : Clause} {i : ℕ} {w : Ways} (s : Putting c i w) where
  pub put_end : length c ≤ i → ways_in w ≡ ways_of c
  put_end past = rw (drop_of_length-le c past) at s.so_far

  -- the next comparison fails in the ways p: the first is added, and then the second, if there is one
  pub put_turn : {p : Constraints} {k : _} (u : Ways) {v : Ways} → Next c i k → p ≡ negations_of k
      → ways_in u ≡ with_way (ways_in w) p.first → u.count ≤ w.count + 1
      → ways_in v ≡ with_second (ways_in u) p.second → v.count ≤ u.count + 1
      → Putting c (i + 1) v
  put_turn {k = k} u next is one one_more two two_more = record {
    few = omega (arith, s.few);
    so_far =
        let rest : drop i c ≡ k ∷ drop (i + 1) c = drop-cons c i (comparison_of no_comparison) next.0 ∙ rw (next.1, add-one i) in
        rw (two, one, is) (rw rest at s.so_far);
  }

-- ---- The choices of a condition

-- the ways of the first q clauses stand in their places
pub record Laying (k : Condition) (q : ℕ) (ways : List Ways) : Type 0 where
  pub four : length ways ≡ 4
  pub few : (j : ℕ) → j < q → (get_or ways j no_ways).count ≤ 12
  pub done : (j : ℕ) → j < q → ways_in (get_or ways j no_ways) ≡ get_or (choices_of k) j spare

pub lay_start : (k : Condition) (ways : List Ways) → length ways ≡ 4 → Laying k 0 ways
lay_start k ways four = record { four = four; few = λ j h. absurd (omega arith); done = λ j h. absurd (omega arith) }

module _ {k : Condition} {q : ℕ} {ways : List Ways} (s : Laying k q ways) where
  -- what holds of each place before q, and of w, holds of each once w is put into place q
  put_each : (P : ℕ → Ways → Type 0) (w : Ways) → q < 4 → P q w → ((j : ℕ) → j < q → P j (get_or ways j no_ways))
      → (j : ℕ) → j < q + 1 → P j (get_or (set ways q w) j no_ways)
  put_each P w more here before = below_more (λ j. P j (get_or (set ways q w) j no_ways)) q
      (λ j l. rw (get_or-set_other ways q j w no_ways (λ e. omega arith)) (before j l))
      (rw (get_or-set_same ways q w no_ways (omega (arith, s.four))) here)

  -- one clause more
  lay_turn : (w : Ways) → q < 4 → ways_in w ≡ get_or (choices_of k) q spare → w.count ≤ 12 → Laying k (q + 1) (set ways q w)
  lay_turn w more is small = record {
    four = length-set ways q w ∙ s.four;
    few = put_each (λ j x. x.count ≤ 12) w more small s.few;
    done = put_each (λ j x. ways_in x ≡ get_or (choices_of k) j spare) w more is s.done;
  }

  pub lay_clause : (w : Ways) → q < 4 → q < length k → ways_in w ≡ ways_of (get_or k q []) → w.count ≤ 12 → Laying k (q + 1) (set ways q w)
  lay_clause w more there is = lay_turn w more (is ∙ sym (choice_at k q there))

  pub lay_spare : (w : Ways) → q < 4 → length k ≤ q → ways_in w ≡ spare → w.count ≤ 12 → Laying k (q + 1) (set ways q w)
  lay_spare w more past is = lay_turn w more (is ∙ sym (choice_past k q past))

  pub lay_end : (n : ℕ) → 4 ≤ q → length k ≤ 4 → choices_in (record { clauses = n; ways = ways }) ≡ choices_of k
  unfolding choices_in
  lay_end n past few_clauses =
      ext_get_or spare (map ways_in ways) (choices_of k) (length-map ways ways_in ∙ s.four ∙ sym (four_choices k few_clauses))
      (λ j l.
      let h : j < 4 = omega (arith, length-map ways ways_in, s.four) in
      map_at ways_in ways j no_ways spare (omega (arith, s.four)) ∙ s.done j (omega arith))
