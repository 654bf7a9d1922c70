-- Marks, one pair of clauses after the other. Assumes nothing.
use mathlib.Core.Path.{◌≡◌, refl, sym, ap, ◌∙◌}
use mathlib.Core.Bool.{Bool, true, false, ◌||◌, or-false}
use mathlib.Core.List.{List}
use mathlib.Core.Option.{Option, none, some}
use mathlib.Core.Logic.{⊎_elim}
use Prim.Native.Nat.{ℕ, suc, ◌+◌, ◌<◌, ◌≤◌}
use native.Mathlib.Nat.{zero-add}
use native.Mathlib.Omega.{arith}
use lib.ListN.{length, get_or, take, drop}
use lib.Dec.{T, eqb, eqb→eq}
use mir.Facts.{or_yes}
use Rattle.base.specs.Lists.{at}
use Rattle.base.specs.Options.{is_some}
use Rattle.base.proofs.Arrays.{filled_same}
use Rattle.std.specs.List.{list_all, range_with_len}
use Rattle.std.proofs.lemmas.List.Elements.{All-get_or}
use Rattle.std.proofs.lemmas.List.FromFn.{length-range_with_len, get_or-range_with_len}
use Rattle.std.proofs.lemmas.List.Sums.{AllPass-from_list_all}
use Rattle.base.proofs.Tests.{T-is, is_T}
use Rattle.model.specs.Tables as model
use Rattle.job.specs.declared.Clause.{Clause}
use Rattle.job.specs.declared.Condition.{Condition}
use Rattle.job.specs.Meaning.{clause_of, condition_of}
use Rattle.zone.specs.Zone.{Zone, Closed, columns_of}
use Rattle.conditions.specs.Meeting.{by_clause}
use Rattle.conditions.proofs.Clauses.{item, item_fits}
use Rattle.conditions.proofs.Meeting.{Laid, laid_found}
use Rattle.conditions.proofs.Nothing.{by_none, clauses_none}
use Rattle.conditions.proofs.Turns.{turns_end, turn_without, turn_passed, turn_with}
use Rattle.twins.specs.Pairs.{if_differ}
use Rattle.twins.specs.Marks.{marked}
use Rattle.twins.specs.Uses.{Marks}
use Rattle.twins.proofs.Marking.{mark_of, marked_cong, marked_marked, marked_nothing}
use Rattle.twins.proofs.Differing.{own_same, nodes_of}

-- what is looked for in rows that meet both conditions: those where column c differs from its twin
abbrev pub column_differs : List ℕ → ℕ → Zone → Option Zone
column_differs twin c = if_differ c (at twin c)

-- and in rows that meet the first one: the same of those that meet the second, l
abbrev pub pair_differs : Condition → List ℕ → ℕ → Zone → Option Zone
pair_differs l twin c y = by_clause y (condition_of l) (column_differs twin c)

-- the marks, and those that the clauses of a list give; f c is what is looked for in the rows that meet a clause, for column c
abbrev pub marked_by : Zone → model.Condition → ℕ → (ℕ → Zone → Option Zone) → List Bool → List Bool
marked_by z ks w f marks = marked w (λ c. is_some (by_clause z ks (f c))) marks

-- ---- a loop over the clauses of a condition, which are the slice s
module _ (k : Condition) {s : List Clause} (is : s ≡ take k.size k.clauses) (z : Zone) (w : ℕ) (f : ℕ → Zone → Option Zone) where
  abbrev left : ℕ → ℕ → Bool
  left i c = is_some (by_clause z (drop i (condition_of k)) (f c))

  -- no clause is left
  pub marks_end : {q : ℕ} (marks : List Bool) → length s ≤ q → marked_by z (drop q (condition_of k)) w f marks ≡ marks
  marks_end {q} marks h =
      marked_cong (left q) (λ c. false) marks w (λ c g. ap is_some (turns_end k is _ q refl h))
      ∙ marked_nothing marks w

  -- clause q is laid; b and e are what that answers and leaves
  module _ {q : ℕ} (h : q < length s) {b : Bool} {e : Zone} (laid : Laid z (clause_of (item s q)) b e) (marks : List Bool) where
    pub marks_without : b ≡ false → marked_by z (drop (q + 1) (condition_of k)) w f marks ≡ marked_by z (drop q (condition_of k)) w f marks
    marks_without no_row = marked_cong (left (q + 1)) (left q) marks w (λ c l. ap is_some (turn_without k is h z laid (f c) refl no_row))

    pub marks_with : b ≡ true → w ≤ length marks → {new : List Bool} → new ≡ marked w (λ c. is_some (f c e)) marks
        → marked_by z (drop (q + 1) (condition_of k)) w f new ≡ marked_by z (drop q (condition_of k)) w f marks
    marks_with some_row enough is_new = rw is_new (
        marked_marked (left (q + 1)) (λ c. is_some (f c e)) marks w enough
        ∙ marked_cong (λ c. is_some (f c e) || left (q + 1) c) (left q) marks w (λ c l. go c (f c e) refl))
      where
        go : (c : ℕ) (o : Option Zone) → f c e ≡ o → (is_some o || left (q + 1) c) ≡ left q c
        go c none i = ap is_some (turn_passed k is h z laid (f c) refl some_row i)
        go c (some v) i = sym (ap is_some (turn_with k is h z laid (f c) refl some_row i))

-- ---- where every column is marked, or its own twin, no more are marked
module _ {z : Zone} {k l : Condition} {w : ℕ} {twin : List ℕ} (u : Marks z k l w twin) (closed : Closed z)
    (marks : List Bool) (size : length marks ≡ w)
    (all : list_all (λ c. get_or marks c false || eqb (at twin c) c) (range_with_len 0 (length marks)) ≡ true) where
  settled : (f : ℕ → Bool) → ((c : ℕ) → c < w → at twin c ≡ c → f c ≡ false) → marked w f marks ≡ marks
  unfolding marked
  settled f own = filled_same (mark_of f marks) 0 w marks false (λ c h. rw zero-add (here c h))
    where
      passed : (c : ℕ) → c < w → T (get_or marks c false || eqb (at twin c) c)
      passed c h =
          let ok : ℕ → Bool = λ c. get_or marks c false || eqb (at twin c) c in
          let here : c < length (range_with_len 0 w) = omega (arith, length-range_with_len 0 w) in
          let every = All-get_or (λ c. ok c ≡ true) (range_with_len 0 w) c 0 here (AllPass-from_list_all ok (range_with_len 0 w) (rw size at all)) in
          is_T (rw (get_or-range_with_len 0 w c 0 h ∙ zero-add c) at every)

      here : (c : ℕ) → c < w → mark_of f marks c ≡ get_or marks c false
      here c h = ⊎_elim
          (λ m. let is = T-is (get_or marks c false) m in rw is)
          (λ e. rw (own c h (eqb→eq (at twin c) c e)) (or-false (get_or marks c false)))
          (or_yes (get_or marks c false) (eqb (at twin c) c) (passed c h))

  -- a column that is its own twin differs in no rows that meet what is left of the second condition
  own_none : {c : ℕ} → c < w → at twin c ≡ c → (r : ℕ) (y : Zone) → Closed y → length y ≡ suc (columns_of z)
      → by_clause y (drop r (condition_of l)) (column_differs twin c) ≡ none
  own_none {c} h own r y cl same =
      clauses_none cl same (column_differs twin c) (λ x clx long. rw own (own_same clx long (omega (arith, u.paired.first_in))))
      (condition_of l) u.searches.second.fit r

  -- so no more are marked
  pub marks_whole : marks ≡ marked_by z (condition_of k) w (pair_differs l twin) marks
  marks_whole = sym (settled (λ c. is_some (by_clause z (condition_of k) (pair_differs l twin c))) (λ c less own.
      ap is_some (clauses_none closed (nodes_of closed) (pair_differs l twin c) (own_none less own 0) (condition_of k) u.searches.first.fit 0)))

  -- nor from clause r of the second condition on, once clause q of the first was laid
  pub marks_settled : {s : List Clause} (is : s ≡ take k.size k.clauses) {q : ℕ} (h : q < length s)
      {b : Bool} {e : Zone} (laid : Laid z (clause_of (item s q)) b e) → b ≡ true → (old : List Bool) → w ≤ length old → (r : ℕ)
      → marked_by e (drop r (condition_of l)) w (column_differs twin) marks ≡ marked_by e (condition_of l) w (column_differs twin) old
      → marks ≡ marked_by z (drop q (condition_of k)) w (pair_differs l twin) old
  marks_settled is {q} h {b} {e} laid some_row old enough r now =
      sym (settled (λ c. is_some (by_clause z (drop (q + 1) (condition_of k)) (pair_differs l twin c))) (λ c less own.
      ap is_some (clauses_none closed (nodes_of closed) (pair_differs l twin c) (own_none less own 0) (condition_of k) u.searches.first.fit (q + 1))))
      ∙ marks_with k is z w (pair_differs l twin) h laid old some_row enough
      (sym (settled (λ c. is_some (by_clause e (drop r (condition_of l)) (column_differs twin c))) (λ c less own.
      let nothing = by_none closed (nodes_of closed) (λ y. by_clause y (drop r (condition_of l)) (column_differs twin c)) (own_none less own r) _
      (item_fits k is h u.searches.first) in
      ap is_some (rw (laid_found z _ laid some_row) at nothing))) ∙ now)
