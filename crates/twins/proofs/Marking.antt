-- Marks, one column after the other, and marks on marks. Assumes nothing.
use mathlib.Core.Path.{◌≡◌, refl, ◌∙◌}
use mathlib.Core.Bool.{Bool, true, false, cond, ◌||◌, or_assoc, or-false}
use mathlib.Core.List.{List}
use mathlib.Core.Option.{none, some}
use Prim.Native.Nat.{ℕ, suc, ◌+◌, ◌<◌, ◌≤◌}
use native.Mathlib.Omega.{arith}
use native.Mathlib.Numerals.{add-one}
use native.Mathlib.Nat.{zero-add}
use lib.ListN.{length, get_or, set}
use Rattle.base.proofs.Arrays.{Pass, filled_cong, filled_same, front_turn, pass_end, pass_ahead, filled_again, filled_in, filled_length}
use Rattle.base.specs.Options.{is_some}
use Rattle.zone.specs.Zone.{Zone, can_differ}
use Rattle.twins.specs.Pairs.{if_differ}
use Rattle.twins.specs.Marks.{marked}

-- ---- one column after the other

-- a mark that there is, or what f says
abbrev pub mark_of : (ℕ → Bool) → List Bool → ℕ → Bool
mark_of f marks c = get_or marks c false || f c

pub marked_length : (f : ℕ → Bool) (marks : List Bool) (w : ℕ) → length (marked w f marks) ≡ length marks
unfolding marked
marked_length f marks w = filled_length (mark_of f marks) 0 w marks

pub marked_at : (f : ℕ → Bool) (marks : List Bool) (w c : ℕ) → w ≤ length marks → c < w → get_or (marked w f marks) c false ≡ mark_of f marks c
unfolding marked
marked_at f marks w c few h = rw zero-add at (filled_in (mark_of f marks) 0 w marks c false (omega arith) h)

-- a turn of the loop over the columns, and its end
module _ (f : ℕ → Bool) {w c : ℕ} (marks : List Bool) {all : List Bool} (s : Pass (mark_of f marks) 0 w c marks all) where
  pub marked_turn : {v : Bool} → c < w → v ≡ f c → Pass (mark_of f marks) 0 w (c + 1) marks (set all c (get_or all c false || v))
  marked_turn h is = front_turn s h (rw (pass_ahead s false {k = c} (omega arith), is))

  pub marked_end : w ≤ c → all ≡ marked w f marks
  unfolding marked
  marked_end h = pass_end s h

-- the nodes of a column and of its partner
pub differ_node : (z : Zone) (c p t : ℕ) → p ≡ t → can_differ z (c + 1) (p + 1) ≡ can_differ z (suc c) (suc t)
differ_node z c p t e = rw (e, add-one c, add-one t)

-- ---- marks on marks

pub marked_cong : (f g : ℕ → Bool) (marks : List Bool) (w : ℕ) → ((c : ℕ) → c < w → f c ≡ g c) → marked w f marks ≡ marked w g marks
unfolding marked
marked_cong f g marks w h = filled_cong (mark_of f marks) (mark_of g marks) 0 w marks (λ c l. rw (h c l))

pub marked_marked : (f g : ℕ → Bool) (marks : List Bool) (w : ℕ) → w ≤ length marks → marked w f (marked w g marks) ≡ marked w (λ c. g c || f c) marks
unfolding marked
marked_marked f g marks w few =
    filled_cong (mark_of f (marked w g marks)) (mark_of (λ c. g c || f c) marks) 0 w (marked w g marks)
    (λ c l. rw (marked_at g marks w c few l) (or_assoc (get_or marks c false) (g c) (f c)))
    ∙ filled_again (mark_of (λ c. g c || f c) marks) (mark_of g marks) 0 w marks

pub marked_nothing : (marks : List Bool) (w : ℕ) → marked w (λ c. false) marks ≡ marks
unfolding marked
marked_nothing marks w = filled_same (mark_of (λ c. false) marks) 0 w marks false (λ c h. rw zero-add (or-false (get_or marks c false)))

-- one look for each column
pub marked_differ : (partner : ℕ → ℕ) (z : Zone) (marks : List Bool) (w : ℕ)
    → marked w (λ c. can_differ z (suc c) (suc (partner c))) marks ≡ marked w (λ c. is_some (if_differ c (partner c) z)) marks
unfolding if_differ
marked_differ partner z marks w = marked_cong (λ c. can_differ z (suc c) (suc (partner c))) (λ c. is_some (if_differ c (partner c) z)) marks w
    (λ c l. is (can_differ z (suc c) (suc (partner c))))
  where
    is : (t : Bool) → t ≡ is_some (cond t (some z) none)
    is true = refl
    is false = refl
