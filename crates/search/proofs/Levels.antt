-- One level of the search: the ways of one clause, each tried in turn with the later clauses. Assumes nothing.
use mathlib.Core.Path.{◌≡◌, refl, sym, ap, ◌∙◌}
use mathlib.Core.Bool.{Bool, true, false, cond, ◌&&◌}
use mathlib.Core.List.{List, []}
use mathlib.Core.Option.{Option, none, some}
use Prim.Native.Nat.{ℕ, suc, ◌+◌, ◌-◌, ◌<◌, ◌≤◌}
use native.Mathlib.Omega.{arith}
use lib.ListN.{length, get_or, take, drop, drop_of_length-le, length-drop}
use lib.Seq.{drop-cons, get_or-drop, take_all}
use Rattle.base.proofs.Places.{element}
use Rattle.std.proofs.lemmas.List.{drop-map}
use Rattle.base.specs.Lists.{at}
use Rattle.base.specs.Options.{and_then, first_of}
use Rattle.base.proofs.Options.{none_of, then_none, then_some}
use Rattle.base.proofs.Turns.{first_none, first_more, first_found}
use Rattle.zone.specs.declared.Constraint.{Constraint}
use Rattle.zone.specs.Zone.{Zone, allows, tightened, constrained, kept}
use Rattle.conditions.specs.Meeting.{Ends}
use Rattle.conditions.proofs.Meeting.{some_of, ends_none, ends_some}
use Rattle.breaking.specs.declared.Choices.{Choices}
use Rattle.breaking.specs.Breaking.{free, chosen}
use Rattle.breaking.specs.Places.{ways_in, choices_in, clause_ways, in_order}
use Rattle.breaking.specs.Uses.{WaysFit, ChoicesFit, Chooses}
use Rattle.breaking.proofs.Clauses.{order_length, order_at}
use Rattle.breaking.proofs.Chosen.{chosen_length}
use Rattle.search.specs.Order.{weights, order_by}
use Rattle.search.specs.Search.{broken, broken_by}
use Rattle.search.proofs.Order.{Four, order_length as length-ordered, order_below}

-- choices between n nodes, in an order
pub record Ready (n : ℕ) (k : Choices) (o : List ℕ) : Type 0 where
  pub fit : ChoicesFit n k
  pub order : Four o

-- o is the order by what the clauses weigh
pub order_four : (a : List ℕ) {o : List ℕ} → o ≡ order_by a → Four o
order_four a is = rw is (record { four = length-ordered a; below = order_below a })

pub ready_by : {n : ℕ} {k : Choices} (a : List ℕ) {o : List ℕ} → ChoicesFit n k → o ≡ order_by a → Ready n k o
ready_by a fit is = record { fit = fit; order = order_four a is }

-- the clauses in that order
abbrev pub ordered : Choices → List ℕ → List (List Constraint)
ordered k o = in_order o (choices_in k)

-- the ways of clause j
abbrev pub level : Choices → List ℕ → ℕ → List Constraint
level k o j = ways_in (clause_ways k (at o j))

-- what comes of one way of clause j: rows of the zone that also break the later clauses, or none
abbrev pub tried : List (List Constraint) → ℕ → Zone → Constraint → Option Zone
tried ks j z c = and_then (chosen z c (drop (suc j) ks)) (λ y. broken y (drop (suc j) ks))

-- the later clauses, by their numbers
later_is : (k : Choices) (o : List ℕ) (j : ℕ) → in_order (drop j o) (choices_in k) ≡ drop j (ordered k o)
unfolding in_order
later_is k o j = sym (drop-map _ j o)

-- a loop over the ways of clause j for the rows of the zone x, in a search for o: before way i nothing was found
pub record Trying (n : ℕ) (k : Choices) (o : List ℕ) (goal : Option Zone) (j : ℕ) (x : Zone) (i : ℕ) (found : Bool) : Type 0 where
  pub ready : Ready n k o
  pub in_four : j < 4
  pub size : length x ≡ n
  pub barren : first_of (drop i (level k o j)) (tried (ordered k o) j x) ≡ broken x (drop j (ordered k o))
  pub wins : (y : Zone) → broken x (drop j (ordered k o)) ≡ some y → goal ≡ some y
  pub not_yet : found ≡ false

pub level_start : {n : ℕ} {k : Choices} {o : List ℕ} {goal : Option Zone} → Ready n k o → (j : ℕ) → j < 4 → {x : Zone} {found : Bool} → length x ≡ n
    → ((y : Zone) → broken x (drop j (ordered k o)) ≡ some y → goal ≡ some y) → found ≡ false → Trying n k o goal j x 0 found
level_start {n} {k} {o} ready j in_four {x} size wins not_yet =
    let four = ready.order.four in
    record {
      ready = ready;
      in_four = in_four;
      size = size;
      barren = rw (drop-cons (ordered k o) j [] (omega (arith, order_length k o)), order_at k o j (omega arith));
      wins = wins;
      not_yet = not_yet;
    }

-- nothing came of any way
pub level_end : {n : ℕ} {k : Choices} {o : List ℕ} {goal : Option Zone} {j : ℕ} {x : Zone} {i : ℕ} {found : Bool}
    → Trying n k o goal j x i found → {us : List Constraint} → us ≡ level k o j → length us ≤ i → broken x (drop j (ordered k o)) ≡ none
level_end {n} {k} {o} {goal} {j} {x} {i} l is h = first_none (tried (ordered k o) j x) free (level k o j) i l.barren (rw is at h)

module _ {n : ℕ} {k : Choices} {o : List ℕ} {goal : Option Zone} {j : ℕ} {x : Zone} {i : ℕ} {found : Bool}
    (l : Trying n k o goal j x i found) where
  abbrev ks : List (List Constraint)
  ks = ordered k o

  fits : WaysFit n (level k o j)
  fits = l.ready.fit (at o j) (l.ready.order.below j l.in_four)

  -- the numbers of the later clauses, as the code cuts them from an array of four
  abbrev ns : List ℕ
  ns = take (4 - suc j) (drop (suc j) o)

  after : ns ≡ drop (suc j) o
  after = let four = l.ready.order.four in take_all (4 - suc j) (drop (suc j) o) (omega (arith, length-drop (suc j) o))

  -- us are the ways as the code has them, and d stands for what is past their end
  module _ {us : List Constraint} (is : us ≡ level k o j) (d : Constraint) (more : i < length us) where
    h : i < length (level k o j)
    h = rw is at more

    abbrev way : Constraint
    way = get_or (level k o j) i d

    asked : Chooses x way k (drop (suc j) o)
    asked = record {
      way = rw l.size (fits way (element (level k o j) i d h));
      choices = rw l.size l.ready.fit;
      rest = λ r s.
          let four = l.ready.order.four in
          rw (get_or-drop (suc j) o r 0) (l.ready.order.below (suc j + r) (omega (arith, length-drop (suc j) o)));
    }

    pub level_asks : Chooses x (get_or us i d) k ns
    level_asks = rw (is, after) asked

    -- something comes of way i
    stops : {y : Zone} → tried ks j x way ≡ some y → broken x (drop j ks) ≡ some y
    stops e = first_found (tried ks j x) d (level k o j) i l.barren h e

    -- nothing does
    goes_on : {found' : Bool} → tried ks j x way ≡ none → found' ≡ false → Trying n k o goal j x (i + 1) found'
    goes_on e not_yet = record {
      ready = l.ready;
      in_four = l.in_four;
      size = l.size;
      barren = first_more (tried ks j x) d (level k o j) i l.barren h e;
      wins = l.wins;
      not_yet = not_yet;
    }

    -- ---- one turn: r and e are what choosing way i answers and leaves
    module _ {r : Bool} (e : Zone) (told : Ends (chosen x (get_or us i d) (in_order ns (choices_in k))) r e) where
      abbrev taken : Option Zone
      taken = chosen x way (drop (suc j) ks)

      abbrev later : Zone → Option Zone
      later y = broken y (drop (suc j) ks)

      choice : Ends taken r e
      choice = rw (is, after, later_is k o (suc j)) at told

      found_there : r ≡ true → taken ≡ some e
      found_there some_row = let (y, found) = some_of taken choice.0 some_row in found ∙ ap some (sym (choice.1 y found))

      -- what the later clauses leave is found
      deeper : r ≡ true → (y : Zone) → broken e (drop (suc j) ks) ≡ some y → goal ≡ some y
      deeper some_row y deep = l.wins y (stops (then_some later (found_there some_row) deep))

      -- the loop over the ways of the next clause begins
      pub turn_down : suc j < 4 → r ≡ true → Trying n k o goal (suc j) e 0 found
      turn_down in-next some_row =
          level_start l.ready (suc j) in-next (chosen_length x way (drop (suc j) ks) (found_there some_row) ∙ l.size) (deeper some_row) l.not_yet

      -- it ends with nothing
      pub turn_barren : {i' : ℕ} {found' found'' : Bool} → r ≡ true → Trying n k o goal (suc j) e i' found' → {vs : List Constraint}
          → vs ≡ level k o (suc j) → length vs ≤ i' → found'' ≡ found' → Trying n k o goal j x (i + 1) found''
      turn_barren some_row next there past same =
          goes_on (then_some later (found_there some_row) (level_end next there past)) (same ∙ next.not_yet)

      -- it doesn't begin
      pub turn_shut : {found' : Bool} → r ≡ false → found' ≡ found → Trying n k o goal j x (i + 1) found'
      turn_shut no_row same = goes_on (then_none later (none_of taken choice.0 no_row)) (same ∙ l.not_yet)

      -- a way of the last clause is taken: the search is over
      pub turn_ends : j ≡ 3 → r ≡ true → Ends goal true e
      turn_ends last some_row =
          let four = l.ready.order.four in
          let all-broken = drop_of_length-le ks {i = suc j} (omega (arith, order_length k o)) in
          ends_some e (deeper some_row e (rw all-broken))

-- ---- the ways of the last clause are imposed on the zone itself, as no clause is left to look ahead at
module _ (z : Zone) (c : Constraint) (o : List ℕ) (k : Choices) {r : Bool} {e : Zone} (told : r ≡ allows z c) (left : e ≡ kept z (constrained z c)) where
  pub last_ends : Ends (chosen z c (in_order (take (4 - suc 3) (drop (suc 3) o)) (choices_in k))) r e
  unfolding chosen constrained in_order
  last_ends = rw (told, left) (go (allows z c))
    where
      go : (b : Bool) → Ends (cond (b && true) (some (tightened z c)) none) b (kept z (cond b (some (tightened z c)) none))
      go true = ends_some (tightened z c) refl
      go false = ends_none z refl

  -- and with none it stays as it is
  pub last_stays : r ≡ false → e ≡ z
  unfolding constrained
  last_stays none_left = let no : allows z c ≡ false = sym told ∙ none_left in rw (left, no) refl

-- ---- the whole search: o is the order, a what the clauses weigh
pub search_is : (z : Zone) (count : ℕ) (ks : List (List Constraint)) (a : List ℕ) {o : List ℕ} → a ≡ weights z count ks → o ≡ order_by a
    → broken z (in_order o ks) ≡ broken_by z count ks
unfolding broken_by
search_is z count ks a e f = rw (f, e)
