-- Comparisons imposed one after the other, and "equal" as two constraints. Assumes nothing.
use mathlib.Core.Path.{◌≡◌, refl, sym, ◌∙◌}
use mathlib.Core.Bool.{Bool, true, false, cond, false≢true}
use Rattle.std.specs.Prelude.{Some, None}
use mathlib.Core.List.{List, [], ◌∷◌}
use mathlib.Core.Option.{Option, none, some}
use Prim.Native.Nat.{ℕ, ◌-◌, ◌*◌, ◌<◌, ◌≤◌}
use native.Mathlib.Omega.{arith}
use lib.ListN.{length}
use lib.Dec.{T}
use Rattle.base.proofs.Options.{then_itself}
use Rattle.base.specs.Options.{and_then, is_some}
use Rattle.base.proofs.Tests.{T-is}
use Rattle.zone.specs.declared.Constraint.{Constraint}
use Rattle.zone.specs.Zone.{Zone, level, Closed, allows, tightened, constrained, kept}
use Rattle.zone.specs.Uses.{Joins}
use Rattle.zone.proofs.Ranges.{allows_is}
use Rattle.zone.proofs.Closed.{tight_entry, tight_length}
use Rattle.zone.proofs.Answers.{kept_length}
use Rattle.words.specs.declared.Op.{Op}
use Rattle.words.specs.declared.Op.TheVariants.{Less, AtMost, Equal, AtLeast, More}
use Rattle.model.specs.Tables.{Comparison}
use Rattle.solver.specs.declared.Constraints.{Constraints}
use Rattle.solver.specs.Comparisons.{Nodes, at_most_by, between, list_of, constraints_of}
use Rattle.solver.specs.Uses.{NodesIn}
use Rattle.solver.specs.Solver.{constrained_by, imposed_by, imposed, imposed_all}
use Rattle.solver.specs.Lists.{onward, reached}

-- ---- two constraints at once
module _ (z : Zone) (c e : Constraint) (cl : Closed z) (cl-in : c.left < length z) (cr-in : c.right < length z)
    (el_in : e.left < length z) (er-in : e.right < length z) where
  -- a constraint that no row obeys isn't obeyed by any of fewer rows
  still_none : T (allows z c) → T (allows (tightened z c) e) → T (allows z e)
  still_none ok t =
      (allows_is z e).1 (omega (arith, (allows_is (tightened z c) e).0 t, tight_entry z c cl cl-in cr-in ok e.right e.left er-in el_in))

  pub pair_none : allows z e ≡ false → constrained_by z (c ∷ e ∷ []) ≡ none
  unfolding constrained
  pair_none n = first (allows z c) refl (allows (tightened z c) e) refl
    where
      first : (s : Bool) → allows z c ≡ s → (t : Bool) → allows (tightened z c) e ≡ t
          → and_then (cond s (some (tightened z c)) none) (λ y. constrained_by y (e ∷ [])) ≡ none
      first false p t q = refl
      first true p false q = rw q
      first true p true q = absurd (rw n at (still_none (rw p tt) (rw q tt)))

  pub pair_first : allows z c ≡ false → constrained_by z (c ∷ e ∷ []) ≡ none
  unfolding constrained
  pair_first n = rw n

-- x_a - x_b is at most w and at least w: where each can be met, both can
module _ (z : Zone) (a b w : ℕ) (cl : Closed z) (a_in : a < length z) (b-in : b < length z) (most : w ≤ 2 * level) where
  abbrev there : Constraint
  there = at_most_by a b w

  abbrev back : Constraint
  back = at_most_by b a (2 * level - w)

  pub back_allowed : T (allows z there) → T (allows z back) → T (allows (tightened z there) back)
  back_allowed s t =
      (allows_is (tightened z there) back).1
      (omega (arith, (allows_is z back).0 t, tight_entry z there cl a_in b-in s a b a_in b-in, cl.diagonal a a_in, cl.diagonal b b-in))

-- ---- a comparison of two nodes
some_allows : (z : Zone) (c : Constraint) → is_some (constrained z c) ≡ allows z c
unfolding constrained
some_allows z c = go (allows z c)
  where
    go : (t : Bool) → is_some (cond t (some (tightened z c)) none) ≡ t
    go true = refl
    go false = refl

between_joins : (z : Zone) (o : Op) (a b w : ℕ) → a < length z → b < length z → 0 < w → w < 2 * level → Joins (length z) (between o a b w).first
between_joins z Less a b w l r s m = record { left_in = l; right_in = r; most_fits = omega arith }
between_joins z AtMost a b w l r s m = record { left_in = l; right_in = r; most_fits = omega arith }
between_joins z Equal a b w l r s m = record { left_in = l; right_in = r; most_fits = omega arith }
between_joins z AtLeast a b w l r s m = record { left_in = r; right_in = l; most_fits = omega arith }
between_joins z More a b w l r s m = record { left_in = r; right_in = l; most_fits = omega arith }

-- two constraints are those of "equal"
between_two : (o : Op) (a b w : ℕ) {c : Constraint} → (between o a b w).second ≡ Some c
    → ((between o a b w).first ≡ at_most_by a b w) × (c ≡ at_most_by b a (2 * level - w))
between_two Less a b w t = absurd (cc)
between_two AtMost a b w t = absurd (cc)
between_two Equal a b w t = (refl, cc)
between_two AtLeast a b w t = absurd (cc)
between_two More a b w t = absurd (cc)

module _ {z : Zone} {n i : Nodes} (inside : NodesIn z n) (view : i ≡ n) (added : (0 < i.added) × (i.added < 2 * level))
    {p : Constraints} (e : p ≡ between n.op n.left n.right n.added) where
  abbrev o : Op
  o = n.op

  abbrev a : ℕ
  a = n.left

  abbrev b : ℕ
  b = n.right

  abbrev w : ℕ
  w = n.added

  added_some : 0 < w
  added_some = rw (← view) added.0

  added_most : w < 2 * level
  added_most = rw (← view) added.1

  pub first_joins : Joins (length z) p.first
  first_joins = rw e (between_joins z o a b w inside.left_in inside.right_in added_some added_most)

  -- what is answered, and left of the zone
  abbrev pub Outcome : Bool → Zone → Type 0
  Outcome r x = (r ≡ is_some (imposed_by z (between o a b w))) × (x ≡ kept z (imposed_by z (between o a b w)))

  -- with one constraint
  pub one_outcome : p.second ≡ None → (r : Bool) (x : Zone) → r ≡ allows z p.first → x ≡ kept z (constrained z p.first) → Outcome r x
  unfolding imposed_by
  one_outcome t r x f g =
      let by : imposed_by z p ≡ constrained z p.first = rw t (then_itself (constrained z p.first)) in
      rw (← e, by) (f ∙ sym (some_allows z p.first), g)

  -- with two
  module _ {c : Constraint} (t : p.second ≡ Some c) where
    -- those of "equal"
    equal : (p.first ≡ at_most_by a b w) × (c ≡ at_most_by b a (2 * level - w))
    equal = rw e (between_two o a b w (rw e at t))

    pub second_joins : Joins (length z) c
    second_joins = rw equal.1 (record { left_in = inside.right_in; right_in = inside.left_in; most_fits = omega arith })

    pub next_joins : Joins (length (kept z (constrained z p.first))) c
    next_joins = rw (kept_length z p.first) second_joins

    none_outcome : constrained_by z (p.first ∷ c ∷ []) ≡ none → Outcome false z
    unfolding imposed_by
    none_outcome q =
        let by : imposed_by z p ≡ none = rw t q in
        rw (← e, by) (refl, refl)

    module _ (cl : Closed z) where
      -- of which the second can't be met
      pub second_outcome : allows z c ≡ false → Outcome false z
      second_outcome q =
          let f = first_joins in
          let s = second_joins in
          none_outcome (pair_none z p.first c cl f.left_in f.right_in s.left_in s.right_in q)

      -- or the first
      pub first_outcome : allows z p.first ≡ false → Outcome false (kept z (constrained z p.first))
      unfolding constrained
      first_outcome q =
          let f = first_joins in
          let s = second_joins in
          rw q (none_outcome (pair_first z p.first c cl f.left_in f.right_in s.left_in s.right_in q))

      both_allowed : allows z p.first ≡ true → allows z c ≡ true → T (allows (tightened z p.first) c)
      both_allowed f s =
          rw (equal.0, equal.1)
          (back_allowed z a b w cl inside.left_in inside.right_in (omega (arith, added_most))
          (let q : T (allows z p.first) = rw f tt in rw equal.0 at q)
          (let q : T (allows z c) = rw s tt in rw equal.1 at q))

      -- or each of which can; x is what is left after the first
      pub both_outcome : allows z p.first ≡ true → allows z c ≡ true → (x : Zone) → x ≡ kept z (constrained z p.first)
          → (r : Bool) (y : Zone) → r ≡ allows x c → y ≡ kept x (constrained x c) → Outcome r y
      unfolding imposed_by constrained
      both_outcome f s x left r y h k =
          let ok : allows (tightened z p.first) c ≡ true = T-is _ (both_allowed f s) in
          let by : imposed_by z p ≡ some (tightened (tightened z p.first) c) = rw (t, f, ok) in
          let tight : x ≡ tightened z p.first = left ∙ rw f in
          rw (← e, by) (h ∙ rw (tight, ok), k ∙ rw (tight, ok))

-- ---- a list, one comparison at a time

-- what is kept of a zone has its nodes
constrained_length : (z y : Zone) (cs : List Constraint) → length y ≡ length z → length (kept z (constrained_by y cs)) ≡ length z
unfolding constrained
constrained_length z y [] e = e
constrained_length z y (c ∷ cs) e = turn (allows y c) (constrained_length z (tightened y c) cs (tight_length y c ∙ e))
  where
    turn : (t : Bool) → length (kept z (constrained_by (tightened y c) cs)) ≡ length z
        → length (kept z (and_then (cond t (some (tightened y c)) none) (λ x. constrained_by x cs))) ≡ length z
    turn true done = done
    turn false done = refl

pub imposed_length : (z : Zone) (k : Comparison) → length (kept z (imposed z k)) ≡ length z
unfolding imposed imposed_by
imposed_length z k = constrained_length z z (list_of (constraints_of k)) refl

module _ (z y : Zone) (k : Comparison) (ks : List Comparison) where
  pub all_onward : is_some (imposed z k) ≡ true → y ≡ kept z (imposed z k) → (imposed_all y ks ≡ imposed_all z (k ∷ ks)) × (reached y ks ≡ reached z (k ∷ ks))
  all_onward s e = go (imposed z k) s e
    where
      go : (o : Option Zone) → is_some o ≡ true → y ≡ kept z o → (imposed_all y ks ≡ and_then o (λ y. imposed_all y ks)) × (reached y ks ≡ onward o z (λ y. reached y ks))
      go none s e = absurd (false≢true s)
      go (some x) s e = rw e (refl, refl)

  pub all_stop : is_some (imposed z k) ≡ false → (imposed_all z (k ∷ ks) ≡ none) × (reached z (k ∷ ks) ≡ z) × (kept z (imposed z k) ≡ z)
  all_stop s = go (imposed z k) s
    where
      go : (o : Option Zone) → is_some o ≡ false → (and_then o (λ y. imposed_all y ks) ≡ none) × (onward o z (λ y. reached y ks) ≡ z) × (kept z o ≡ z)
      go none s = (refl, refl, refl)
      go (some x) s = absurd (false≢true (sym s))
