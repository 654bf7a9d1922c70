-- A list of comparisons, imposed one after the other on a zone. Assumes nothing.
use mathlib.Core.Path.{◌≡◌, refl, sym, ap, ◌∙◌}
use mathlib.Core.Bool.{Bool, true, false}
use mathlib.Core.List.{List, [], ◌∷◌}
use mathlib.Core.Option.{some}
use Prim.Native.Nat.{ℕ, ◌+◌, ◌<◌, ◌≤◌}
use native.Mathlib.Numerals.{add-one}
use lib.ListN.{length, get_or, drop, drop_of_length-le}
use lib.Seq.{drop-cons}
use lib.Dec.{T}
use Rattle.base.proofs.Places.{all_at}
use Rattle.base.specs.Lists.{all_of}
use Rattle.base.specs.Options.{is_some}
use Rattle.model.specs.Tables.{Comparison}
use Rattle.job.specs.Record.{no_comparison}
use Rattle.job.specs.Meaning.{comparison_of}
use Rattle.zone.specs.Zone.{Zone, columns_of, kept}
use Rattle.solver.specs.Solver.{comparison_fits, imposed, imposed_all}
use Rattle.solver.specs.Lists.{reached}
use Rattle.solver.proofs.Imposing.{imposed_length, all_onward, all_stop}

-- the comparison at place k of a list
abbrev pub Next : List Comparison → ℕ → Comparison → Type 0
Next ks k q = (k < length ks) × (get_or ks k (comparison_of no_comparison) ≡ q)

module _ (ks : List Comparison) (first : Zone) where
  -- after k comparisons: what is still to come leads where the entire list does
  pub record Progress (k : ℕ) (z : Zone) : Type 0 where
    pub size : length z ≡ length first
    pub answer : imposed_all z (drop k ks) ≡ imposed_all first ks
    pub end : reached z (drop k ks) ≡ reached first ks

  pub at_start : Progress 0 first
  at_start = record { size = refl; answer = refl; end = refl }

  -- what is answered, and left of the zone
  abbrev pub Ends : Bool → Zone → Type 0
  Ends r x = (r ≡ is_some (imposed_all first ks)) × (x ≡ reached first ks)

module _ {ks : List Comparison} {first : Zone} {k : ℕ} {z : Zone} (p : Progress ks first k z) where
  pub at_end : length ks ≤ k → Ends ks first true z
  at_end h =
      let none_left : drop k ks ≡ [] = drop_of_length-le ks {i = k} h in
      let a : some z ≡ imposed_all first ks = rw none_left at p.answer in
      (ap is_some a, rw none_left at p.end)

  -- the next comparison is q; r and x are what imposing it answers and leaves
  module _ {q : Comparison} (next : Next ks k q) where
    still : drop k ks ≡ q ∷ drop (k + 1) ks
    still = drop-cons ks k (comparison_of no_comparison) next.0 ∙ rw (next.1, add-one k)

    pub next_fits : T (all_of (comparison_fits (columns_of first)) ks) → T (comparison_fits (columns_of z) q)
    next_fits t = rw (p.size, ← next.1) (all_at (comparison_fits (columns_of first)) ks k (comparison_of no_comparison) t next.0)

    module _ {r : Bool} {x : Zone} (answer : r ≡ is_some (imposed z q)) (left : x ≡ kept z (imposed z q)) where
      pub stops : r ≡ false → Ends ks first false x
      stops s =
          let (a, b, c) = all_stop z z q (drop (k + 1) ks) (sym answer ∙ s) in
          (ap is_some (sym a ∙ (rw still at p.answer)), left ∙ c ∙ sym b ∙ (rw still at p.end))

      pub goes_on : r ≡ true → Progress ks first (k + 1) x
      goes_on s =
          let (a, b) = all_onward z x q (drop (k + 1) ks) (sym answer ∙ s) left in
          record {
            size = ap length left ∙ imposed_length z q ∙ p.size;
            answer = a ∙ (rw still at p.answer);
            end = b ∙ (rw still at p.end);
          }
