-- The zone of a list of comparisons: its rows are the rows within bounds that meet the list, so its least row is theirs. Assumes nothing.
use mathlib.Core.Path.{◌≡◌, refl, sym, ap, ◌∙◌}
use mathlib.Core.Logic.{◌↔◌}
use mathlib.Core.List.{List, [], ◌∷◌, map}
use mathlib.Core.Option.{Option, none, some}
use Prim.Native.Nat.{ℕ, suc, ◌<◌, ◌≤◌}
use native.Mathlib.Omega.{arith}
use lib.ListN.{length}
use lib.Signed.{le_z}
use lib.Dec.{T, ltb, ltb→lt, le→leb}
use mir.Facts.{and_yes, yes_and}
use Rattle.solver.specs.Obeying.{ObeysAll}
use Rattle.base.specs.Lists.{all_of, at}
use Rattle.base.specs.Options.{and_then}
use Rattle.words.specs.Bias.{bias, biased}
use Rattle.words.specs.declared.Op.{Op}
use Rattle.words.specs.declared.Op.TheVariants.{Less, AtMost, Equal, AtLeast, More}
use Rattle.words.proofs.Biases.{biased_le}
use Rattle.model.specs.Tables.{Row, Against, column, number, Comparison, comparison_holds, clause_holds, within, inside}
use Rattle.model.specs.declared.Bounds.{Bounds}
use Rattle.model.specs.Least.{at_most_row, least_row}
use Rattle.model.proofs.Theorems.{least_none, least_some}
use Rattle.zone.specs.declared.Constraint.{Constraint}
use Rattle.zone.specs.Zone.{Zone, Obeys, Closed, constrained, least_of}
use Rattle.zone.proofs.Closed.{least_length, least_meets, least_below}
use Rattle.zone.proofs.Answers.{Answers, constrained_answers}
use Rattle.solver.specs.Comparisons.{node_of, added_to, list_of, between, constraints_of}
use Rattle.solver.specs.Solver.{bounds_fit, against_fits, comparison_fits, solvable, nodes, row_of, box_of, constrained_by, imposed_by, imposed, imposed_all, zone_of, solution}
use Rattle.solver.proofs.Nodes.{inside_from, nodes_length, nodes_closed, row_meets, meets_row}
use Rattle.solver.proofs.Comparisons.{comparison_says}

-- ---- one condition after the other
module _ (z : Zone) (P Q : List ℕ → Type 0) where
  pub answers_then : (o : Option Zone) (f : Zone → Option Zone) → Answers z P o → ((y : Zone) → o ≡ some y → Answers y Q (f y))
      → Answers z (λ x. P x × Q x) (and_then o f)
  answers_then none f a next = λ x m (p, q). a x m p
  answers_then (some y) f a next = go (f y) (next y refl)
    where
      go : (o : Option Zone) → Answers y Q o → Answers z (λ x. P x × Q x) o
      go none b = λ x m (p, q). b x ((a.2 x).1 (m, p)) q
      go (some w) b = (
        b.0,
        b.1 ∙ a.1,
        λ x. (
          λ m. let (n, q) = (b.2 x).0 m in let (l, p) = (a.2 x).0 n in (l, (p, q)),
          λ (m, (p, q)). (b.2 x).1 ((a.2 x).1 (m, p), q),
        ),
      )

-- without a condition all rows are left
answers_all : (z : Zone) → Closed z → Answers z (λ x. Unit {0}) (some z)
answers_all z cl = (cl, refl, λ x. (λ m. (m, tt), λ (m, _). m))

-- ---- some constraints
abbrev pub InZone : ℕ → List Constraint → Type 0
InZone n [] = Unit {0}
InZone n (c ∷ cs) = (c.left < n) × (c.right < n) × InZone n cs

in_same : (m n : ℕ) (cs : List Constraint) → n ≡ m → InZone m cs → InZone n cs
in_same m n cs e h = rw e h

pub by_answers : (z : Zone) (cs : List Constraint) → Closed z → InZone (length z) cs → Answers z (ObeysAll cs) (constrained_by z cs)
by_answers z [] cl h = answers_all z cl
by_answers z (c ∷ cs) cl (l, r, h) =
    answers_then z (Obeys c) (ObeysAll cs) (constrained z c) (λ y. constrained_by y cs) first
    (λ y e. let a = rw e at first in by_answers y cs a.0 (in_same (length z) (length y) cs a.1 h))
  where
    first : Answers z (Obeys c) (constrained z c)
    first = constrained_answers z c cl l r

-- ---- some comparisons
between_in : (n : ℕ) (o : Op) (a b w : ℕ) → a < n → b < n → InZone n (list_of (between o a b w))
between_in n Less a b w h k = (h, k, tt)
between_in n AtMost a b w h k = (h, k, tt)
between_in n Equal a b w h k = (h, k, (k, h, tt))
between_in n AtLeast a b w h k = (k, h, tt)
between_in n More a b w h k = (k, h, tt)

pub node_in : (n : ℕ) (t : Against) → T (against_fits n t) → node_of t < suc n
node_in n (column c) f = omega (arith, ltb→lt c n f)
node_in n (number v) f = omega arith

pub constraints_in : (n : ℕ) (k : Comparison) → T (comparison_fits n k) → InZone (suc n) (list_of (constraints_of k))
unfolding constraints_of
constraints_in n k f =
    let (l, t) = and_yes (ltb k.left n) (against_fits n k.right) f in
    between_in (suc n) k.op (suc k.left) (node_of k.right) (added_to k.right) (omega (arith, ltb→lt k.left n l)) (node_in n k.right t)

-- the constraints of every comparison
abbrev pub ObeysList : List Comparison → List ℕ → Type 0
ObeysList [] x = Unit {0}
ObeysList (k ∷ ks) x = ObeysAll (list_of (constraints_of k)) x × ObeysList ks x

pub imposed_answers : (n : ℕ) (z : Zone) (k : Comparison) → Closed z → length z ≡ suc n → T (comparison_fits n k)
    → Answers z (ObeysAll (list_of (constraints_of k))) (imposed z k)
unfolding imposed imposed_by
imposed_answers n z k cl e f = by_answers z (list_of (constraints_of k)) cl (in_same (suc n) (length z) (list_of (constraints_of k)) e (constraints_in n k f))

pub list_answers : (n : ℕ) (z : Zone) (ks : List Comparison) → Closed z → length z ≡ suc n → T (all_of (comparison_fits n) ks)
    → Answers z (ObeysList ks) (imposed_all z ks)
list_answers n z [] cl e f = answers_all z cl
list_answers n z (k ∷ ks) cl e f =
    answers_then z (ObeysAll (list_of (constraints_of k))) (ObeysList ks) (imposed z k) (λ y. imposed_all y ks) first
    (λ y q. let a = rw q at first in list_answers n y ks a.0 (a.1 ∙ e) fs.1)
  where
    fs : T (comparison_fits n k) × T (all_of (comparison_fits n) ks)
    fs = and_yes (comparison_fits n k) (all_of (comparison_fits n) ks) f

    first : Answers z (ObeysAll (list_of (constraints_of k))) (imposed z k)
    first = imposed_answers n z k cl e fs.0

-- ---- a list over bounds
module _ (bs : List Bounds) (ks : List Comparison) (ok : T (solvable bs ks)) where
  pub parts : T (all_of bounds_fit bs) × T (all_of (comparison_fits (length bs)) ks)
  unfolding solvable
  parts = and_yes (all_of bounds_fit bs) (all_of (comparison_fits (length bs)) ks) ok

  pub zone_answers : Answers (box_of bs) (ObeysList ks) (zone_of bs ks)
  unfolding zone_of
  zone_answers = list_answers (length bs) (box_of bs) ks (nodes_closed bs parts.0) (nodes_length bs parts.0) parts.1

  -- a row within bounds meets the list where its nodes obey the constraints
  pub list_says : (r : Row) → T (within bs r) → T (clause_holds r ks) ↔ ObeysList ks (nodes r)
  unfolding clause_holds
  list_says r w = go ks parts.1
    where
      go : (ks : List Comparison) → T (all_of (comparison_fits (length bs)) ks) → T (all_of (comparison_holds r) ks) ↔ ObeysList ks (nodes r)
      go [] f = (λ t. tt, λ h. tt)
      go (k ∷ ks) f =
          let (fk, fs) = and_yes (comparison_fits (length bs) k) (all_of (comparison_fits (length bs)) ks) f in
          let one = comparison_says bs parts.0 r w k fk in
          let rest = go ks fs in (
            λ t. let (a, b) = and_yes (comparison_holds r k) (all_of (comparison_holds r) ks) t in (one.0 a, rest.0 b),
            λ (a, b). yes_and (comparison_holds r k) (all_of (comparison_holds r) ks) (one.1 a) (rest.1 b),
          )

  -- in every column at most, from the nodes
  nodes_at_most : (r s : Row) → T (within bs r) → T (within bs s) → ((i : ℕ) → i < length (nodes r) → at (nodes r) i ≤ at (nodes s) i) → T (at_most_row r s)
  nodes_at_most r s v w h = go bs r s parts.0 v w (λ i l. h (suc i) (omega arith))
    where
      go : (bs : List Bounds) (r s : Row) → T (all_of bounds_fit bs) → T (within bs r) → T (within bs s)
          → ((i : ℕ) → i < length (map (biased bias) r) → at (map (biased bias) r) i ≤ at (map (biased bias) s) i) → T (at_most_row r s)
      go [] [] [] f v w h = tt
      go [] [] (b ∷ s) f v w h = absurd w
      go [] (a ∷ r) s f v w h = absurd v
      go (c ∷ bs) [] s f v w h = absurd v
      go (c ∷ bs) (a ∷ r) [] f v w h = absurd w
      go (c ∷ bs) (a ∷ r) (b ∷ s) f v w h =
          let (fc, fs) = and_yes (bounds_fit c) (all_of bounds_fit bs) f in
          let (va, vr) = and_yes (inside c a) (within bs r) v in
          let (wb, ws) = and_yes (inside c b) (within bs s) w in
          yes_and (le_z a b) (at_most_row r s)
          (rw (biased_le bias a b (inside_from c fc a va) (inside_from c fc b wb)) (le→leb (biased bias a) (biased bias b) (h 0 (omega arith))))
          (go bs r s fs vr ws (λ i l. h (suc i) (omega arith)))

  pub solution_least : solution bs ks ≡ least_row bs ks
  unfolding solution
  solution_least = go (zone_of bs ks) zone_answers
    where
      go : (o : Option Zone) → Answers (box_of bs) (ObeysList ks) o → and_then o (λ z. some (row_of (least_of z))) ≡ least_row bs ks
      go none a = sym ((least_none bs ks).1 (λ r w h. a (nodes r) (row_meets bs parts.0 r w) ((list_says r w).0 h)))
      go (some z) (cl, e, rows) =
          let x = least_of z in
          let (m, h) = (rows x).0 (least_meets z cl) in
          let (w, q) = meets_row bs parts.0 x m in
          let r = row_of x in
          let n : ObeysList ks (nodes r) = rw q h in
          let low : (s : Row) → T (within bs s) → T (clause_holds s ks) → T (at_most_row r s) = λ s v i.
          let t = (rows (nodes s)).1 (row_meets bs parts.0 s v, (list_says s v).0 i) in
          nodes_at_most r s w v (λ j l.
          let b = least_below z cl (nodes s) t j (omega (arith, ap (λ (y : List ℕ). length y) q, least_length z cl)) in
          omega (arith, ap (λ (y : List ℕ). at y j) q, b)) in
          sym ((least_some bs ks r).1 (w, (list_says r w).1 n, low))
