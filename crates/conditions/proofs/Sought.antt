-- What a search finds: a zone of rows as sought, or none where there is none. Assumes nothing.
use mathlib.Core.Path.{◌≡◌, refl}
use mathlib.Core.Logic.{⊎_elim}
use mathlib.Core.Bool.{Bool, ◌&&◌, ◌||◌}
use mathlib.Core.List.Memᴰ
use mathlib.Core.List.{List, [], ◌∷◌}
use mathlib.Core.Option.{Option, none, some}
use lib.ListN.{length}
use lib.Dec.{T}
use mir.Facts.{and_yes, yes_and, or_yes}
use Rattle.base.specs.Lists.{◌∈◌, any_of, all_of}
use Rattle.base.specs.Options.{and_then, is_some, or_else, first_of}
use Rattle.base.proofs.Lists.{all_has, any_and}
use Rattle.base.proofs.Tests.{same_test, or_left, or_right}
use Rattle.model.specs.Tables.{Row, Condition, clause_holds, condition_holds, within}
use Rattle.model.specs.declared.Bounds.{Bounds}
use Rattle.model.specs.Rows.{some_row}
use Rattle.model.proofs.Rows.{some_has, has_some}
use Rattle.zone.specs.Zone.{Zone, least_of}
use Rattle.solver.specs.Solver.{bounds_fit, comparison_fits, row_of, imposed_all}
use Rattle.conditions.specs.Meeting.{by_clause, met, pairs_of}
use Rattle.conditions.specs.Uses.{condition_fits}
use Rattle.conditions.proofs.Stands.{Stands, Left, least_stands, clause_left}

-- the rows of a zone, all of which meet p and q; or none where there is no such row
abbrev pub Sought : List Bounds → (Row → Bool) → (Row → Bool) → Option Zone → Type 0
Sought bs p q none = (r : Row) → T (within bs r) → T (p r) → T (q r) → ⊥
Sought bs p q (some y) = (u : Row → Bool) × Stands bs u y × ((r : Row) → T (within bs r) → T (u r) → T (p r) × T (q r))

module _ (bs : List Bounds) (p : Row → Bool) where
  -- a test in place of another with which it agrees
  pub sought_as : (q t : Row → Bool) → ((r : Row) → T (within bs r) → q r ≡ t r) → (o : Option Zone) → Sought bs p q o → Sought bs p t o
  sought_as q t e none a = λ r w h k. a r w h (rw (e r w) k)
  sought_as q t e (some y) (u, s, is) = (u, s, λ r w h. let (a, b) = is r w h in (a, rw (e r w) at b))

  pub left_sought : (q : Row → Bool) (o : Option Zone) → Left bs p q o → Sought bs p q o
  left_sought q none a = a
  left_sought q (some y) s = ((λ r. p r && q r), s, λ r w h. and_yes (p r) (q r) h)

  -- one or the other
  pub either_sought : (q t : Row → Bool) (a b : Option Zone) → Sought bs p q a → Sought bs p t b → Sought bs p (λ r. q r || t r) (or_else a b)
  either_sought q t none none a b = λ r w h k. ⊎_elim (a r w h) (b r w h) (or_yes (q r) (t r) k)
  either_sought q t none (some y) a (u, s, is) = (u, s, λ r w h. let (g, k) = is r w h in (g, or_right (q r) (t r) k))
  either_sought q t (some y) b (u, s, is) _ = (u, s, λ r w h. let (g, k) = is r w h in (g, or_left (q r) (t r) k))

  -- one of some
  pub first_sought : {A : Type 0} (q : A → Row → Bool) (f : A → Option Zone) (xs : List A) → ((x : A) → x ∈ xs → Sought bs p (q x) (f x))
      → Sought bs p (λ r. any_of (λ x. q x r) xs) (first_of xs f)
  first_sought q f [] h = λ r w g k. k
  first_sought q f (x ∷ xs) h =
      either_sought (q x) (λ r. any_of (λ x. q x r) xs) (f x) (first_of xs f) (h x (Memᴰ.head refl))
      (first_sought q f xs (λ y m. h y (Memᴰ.tail m)))

  -- one and then the other
  pub then_sought : (q t : Row → Bool) (o : Option Zone) (f : Zone → Option Zone) → Left bs p q o
      → ((y : Zone) → Stands bs (λ r. p r && q r) y → Sought bs (λ r. p r && q r) t (f y)) → Sought bs p (λ r. q r && t r) (and_then o f)
  then_sought q t none f a next = λ r w h k. a r w h (and_yes (q r) (t r) k).0
  then_sought q t (some y) f a next = go (f y) (next y a)
    where
      go : (o : Option Zone) → Sought bs (λ r. p r && q r) t o → Sought bs p (λ r. q r && t r) o
      go none b = λ r w h k. let (g, l) = and_yes (q r) (t r) k in b r w (yes_and (p r) (q r) h g) l
      go (some v) (u, s, is) = (
        u,
        s,
        λ r w h.
            let (a, k) = is r w h in
            let (b, c) = and_yes (p r) (q r) a in
            (b, yes_and (q r) (t r) c k),
      )

  -- ---- so something is found exactly where some row is as sought, and the least row of what is found is such a row
  pub sought_is : (q : Row → Bool) (o : Option Zone) → Sought bs p q o → is_some o ≡ some_row bs (λ r. p r && q r)
  sought_is q o a = same_test (is_some o) (some_row bs (λ r. p r && q r)) (there o a) (λ t.
      let (r, w, k) = some_has bs (λ r. p r && q r) t in
      let (g, h) = and_yes (p r) (q r) k in
      found o a r w g h)
    where
      there : (o : Option Zone) → Sought bs p q o → T (is_some o) → T (some_row bs (λ r. p r && q r))
      there none a t = absurd t
      there (some y) (u, s, is) t =
          let (w, h) = least_stands bs u y s in
          let (g, k) = is (row_of (least_of y)) w h in
          has_some bs (λ r. p r && q r) (row_of (least_of y)) w (yes_and (p (row_of (least_of y))) (q (row_of (least_of y))) g k)

      found : (o : Option Zone) → Sought bs p q o → (r : Row) → T (within bs r) → T (p r) → T (q r) → T (is_some o)
      found none a r w g h = absurd (a r w g h)
      found (some y) a r w g h = tt

  pub sought_row : (q : Row → Bool) (y : Zone) → Sought bs p q (some y)
      → T (within bs (row_of (least_of y))) × T (p (row_of (least_of y))) × T (q (row_of (least_of y)))
  sought_row q y (u, s, is) =
      let (w, h) = least_stands bs u y s in
      let (g, k) = is (row_of (least_of y)) w h in
      (w, g, k)

-- ---- over bounds and conditions that fit
module _ (bs : List Bounds) (fit : T (all_of bounds_fit bs)) where
  -- to meet a condition, and then what f seeks
  pub clauses_sought : (p : Row → Bool) (z : Zone) → Stands bs p z → (k : Condition) → T (condition_fits (length bs) k)
      → (t : Row → Bool) (f : Zone → Option Zone) → ((q : Row → Bool) (y : Zone) → Stands bs q y → Sought bs q t (f y))
      → Sought bs p (λ r. condition_holds r k && t r) (first_of k (λ c. and_then (imposed_all z c) f))
  unfolding condition_holds
  clauses_sought p z s k fits t f next =
      let o : Option Zone = first_of k (λ c. and_then (imposed_all z c) f) in
      sought_as bs p (λ r. any_of (λ c. clause_holds r c && t r) k) (λ r. condition_holds r k && t r) (λ r w. any_and (clause_holds r) (t r) k) o
      (first_sought bs p (λ c r. clause_holds r c && t r) (λ c. and_then (imposed_all z c) f) k (λ c m.
      then_sought bs p (λ r. clause_holds r c) t (imposed_all z c) f
      (clause_left bs fit p z s c (all_has (all_of (comparison_fits (length bs))) m fits)) (next (λ r. p r && clause_holds r c))))

  -- to meet two conditions, and then what f seeks
  pub pairs_sought : (p : Row → Bool) (z : Zone) → Stands bs p z
      → (k l : Condition) → T (condition_fits (length bs) k) → T (condition_fits (length bs) l)
      → (t : Row → Bool) (f : Zone → Option Zone) → ((q : Row → Bool) (y : Zone) → Stands bs q y → Sought bs q t (f y))
      → Sought bs p (λ r. condition_holds r k && (condition_holds r l && t r)) (pairs_of z k l f)
  unfolding pairs_of
  pairs_sought p z s k l fk fl t f next =
      clauses_sought p z s k fk (λ r. condition_holds r l && t r) (λ y. by_clause y l f) (λ q y u. clauses_sought q y u l fl t f next)

  -- to meet a condition
  pub met_sought : (p : Row → Bool) (z : Zone) → Stands bs p z → (k : Condition) → T (condition_fits (length bs) k)
      → Sought bs p (λ r. condition_holds r k) (met z k)
  unfolding met condition_holds
  met_sought p z s k fits =
      first_sought bs p (λ c r. clause_holds r c) (imposed_all z) k (λ c m.
      left_sought bs p (λ r. clause_holds r c) (imposed_all z c) (clause_left bs fit p z s c (all_has (all_of (comparison_fits (length bs))) m fits)))
