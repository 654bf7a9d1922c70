-- Rows of which a column and its twin differ, among those that meet two conditions. Assumes nothing.
use mathlib.Core.Path.{◌≡◌, refl, sym, ◌∙◌}
use Rattle.std.specs.List.{list_all}
use mathlib.Core.Bool.{Bool, true, false}
use mathlib.Core.List.{List, [], ◌∷◌}
use mathlib.Core.Option.{none}
use Prim.Native.Nat.{ℕ, suc, ◌-◌, ◌<◌}
use native.Mathlib.Omega.{arith}
use lib.ListN.{length}
use lib.Dec.{T, eqb, eqb→eq}
use mir.Facts.{and_yes}
use Rattle.base.specs.Lists.{at}
use Rattle.base.proofs.Tests.{is_T}
use Rattle.words.specs.declared.Op.{Op}
use Rattle.words.specs.declared.Op.TheVariants.{Less, More}
use Rattle.zone.specs.Zone.{Zone, Closed, level, columns_of, allows, constrained, can_differ}
use Rattle.zone.specs.Matrix.{entry}
use Rattle.solver.specs.Comparisons.{at_most_by, one, constraints_of}
use Rattle.solver.specs.Solver.{imposed, imposed_by}
use Rattle.job.specs.declared.Condition.{Condition}
use Rattle.job.specs.Meaning.{condition_of}
use Rattle.conditions.specs.Meeting.{pairs_of}
use Rattle.conditions.proofs.Nothing.{pairs_none}
use Rattle.twins.specs.Pairs.{columns_by, apart, some_apart, if_differ}
use Rattle.twins.specs.Uses.{Differs}

-- ---- a column doesn't differ from itself
module _ {n : ℕ} {y : Zone} (closed : Closed y) (size : length y ≡ suc n) {c : ℕ} (h : c < n) where
  own : entry y (suc c) (suc c) ≡ level
  own = closed.diagonal (suc c) (omega (arith, size))

  below : allows y (at_most_by (suc c) (suc c) (level - 1)) ≡ false
  unfolding allows
  below = rw own

  own_none : (o : Op) → constraints_of (columns_by o c c) ≡ one (at_most_by (suc c) (suc c) (level - 1)) → imposed y (columns_by o c c) ≡ none
  unfolding imposed imposed_by constrained
  own_none o is = rw (is, below)

  pub own_apart : apart c c y ≡ none
  unfolding apart constraints_of
  own_apart = rw (own_none Less refl, own_none More refl)

  pub own_same : if_differ c c y ≡ none
  unfolding if_differ can_differ
  own_same = rw own

-- so where each column is its own twin, none is separated from it
apart_none : (n : ℕ) (cs twin : List ℕ) {y : Zone} → Closed y → length y ≡ suc n → ((i : ℕ) → i < length cs → at cs i < n)
    → T (list_all (λ c. eqb (at twin c) c) cs) → some_apart (at twin) cs y ≡ none
unfolding some_apart
apart_none n [] twin cl size h t = refl
apart_none n (c ∷ cs) twin {y} cl size h t =
    let (e, s) = and_yes (eqb (at twin c) c) (list_all (λ c. eqb (at twin c) c) cs) t in
    rw (eqb→eq (at twin c) c e, own_apart cl size (h 0 (omega arith)), apart_none n cs twin cl size (λ i l. h (suc i) (omega arith)) s)

-- a closed zone has a node for each column, and node 0
pub nodes_of : {z : Zone} → Closed z → length z ≡ suc (columns_of z)
nodes_of closed = omega (arith, closed.some_node)

pub none_shared : {z : Zone} {k l : Condition} {cs twin : List ℕ} → Differs z k l cs twin → Closed z
    → {r : Bool} → r ≡ list_all (λ c. eqb (at twin c) c) cs → r ≡ true
    → pairs_of z (condition_of k) (condition_of l) (some_apart (at twin) cs) ≡ none
none_shared {z} {k} {l} {cs} {twin} u closed told shared =
    pairs_none closed (nodes_of closed) (some_apart (at twin) cs)
    (λ y cl size. apart_none (columns_of z) cs twin cl size u.partners.first_in (is_T (sym told ∙ shared)))
    (condition_of k) (condition_of l) u.searches.first.fit u.searches.second.fit
