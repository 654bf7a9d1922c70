-- What the search over pairs of clauses finds, and rows in which two columns differ. Assumes nothing.
use mathlib.Core.Path.{◌≡◌, refl, sym, ◌∙◌}
use mathlib.Core.Bool.{Bool, true, false, not, cond, or-false, ◌&&◌, ◌||◌}
use mathlib.Core.List.{List}
use mathlib.Core.Option.{Option, none, some}
use Prim.Native.Nat.{ℕ, suc, ◌<◌}
use lib.ListN.{length}
use lib.Dec.{T, ltb, lt→ltb}
use mir.Facts.{yes_and}
use Rattle.base.proofs.Options.{first_some}
use Rattle.base.specs.Lists.{◌∈◌, any_of, all_of}
use Rattle.base.specs.Options.{and_then, is_some}
use Rattle.base.proofs.Lists.{all_has}
use Rattle.words.specs.Compare.{holds, eq_z}
use Rattle.words.specs.declared.Op.{Op}
use Rattle.words.specs.declared.Op.TheVariants.{Less, Equal, More}
use Rattle.model.specs.Tables.{Row, Condition, value, clause_holds, condition_holds}
use Rattle.model.specs.declared.Bounds.{Bounds}
use Rattle.model.specs.Rows.{some_row}
use Rattle.zone.specs.Zone.{Zone, can_differ}
use Rattle.solver.specs.Solver.{bounds_fit, comparison_fits, imposed, imposed_all}
use Rattle.solver.proofs.Comparisons.{opposites_hold}
use Rattle.conditions.specs.Meeting.{by_clause, pairs_of}
use Rattle.twins.specs.Pairs.{columns_by, apart, some_apart, if_differ}
use Rattle.conditions.specs.Uses.{condition_fits}
use Rattle.conditions.proofs.Stands.{Stands, Left, comparison_left, clause_left, differ_sought}
use Rattle.conditions.proofs.Sought.{Sought, sought_as, sought_is, left_sought, either_sought, first_sought, pairs_sought}

module _ (bs : List Bounds) (fit : T (all_of bounds_fit bs)) where
  -- ---- two columns
  module _ (p : Row → Bool) (z : Zone) (s : Stands bs p z) (a b : ℕ) (ha : a < length bs) (hb : b < length bs) where
    by_sought : (o : Op) → Sought bs p (λ r. holds o (value r a) (value r b)) (imposed z (columns_by o a b))
    by_sought o = left_sought bs p (λ r. holds o (value r a) (value r b)) (imposed z (columns_by o a b)) (comparison_left bs fit p z s (columns_by o a b)
        (yes_and (ltb a (length bs)) (ltb b (length bs)) (lt→ltb a (length bs) ha) (lt→ltb b (length bs) hb)))

    pub apart_sought : Sought bs p (λ r. not (eq_z (value r a) (value r b))) (apart a b z)
    unfolding apart
    apart_sought =
        let lower : Row → Bool = λ r. holds Less (value r a) (value r b) in
        let higher : Row → Bool = λ r. holds More (value r a) (value r b) in
        sought_as bs p (λ r. lower r || higher r) (λ r. not (eq_z (value r a) (value r b)))
        (λ r w. rw (← (or-false (higher r))) (opposites_hold Equal (value r a) (value r b))) (apart a b z)
        (either_sought bs p lower higher (imposed z (columns_by Less a b)) (imposed z (columns_by More a b)) (by_sought Less) (by_sought More))

    -- one look tells whether there is such a row
    pub differ_apart : is_some (if_differ a b z) ≡ is_some (apart a b z)
    unfolding if_differ
    differ_apart =
        is (can_differ z (suc a) (suc b)) ∙ differ_sought bs fit p z s a b ha hb
        ∙ sym (sought_is bs p (λ r. not (eq_z (value r a) (value r b))) (apart a b z) apart_sought)
      where
        is : (t : Bool) → is_some (cond t (some z) none) ≡ t
        is true = refl
        is false = refl

  -- ---- two columns of some, given as a column and its partner
  pub some_apart_lem : (partner : ℕ → ℕ) (cs : List ℕ) → ((c : ℕ) → c ∈ cs → (c < length bs) × (partner c < length bs))
      → (p : Row → Bool) (z : Zone) → Stands bs p z
      → Sought bs p (λ r. any_of (λ c. not (eq_z (value r c) (value r (partner c)))) cs) (some_apart partner cs z)
  unfolding some_apart
  some_apart_lem partner cs declared p z s =
      first_sought bs p (λ c r. not (eq_z (value r c) (value r (partner c)))) (λ c. apart c (partner c) z) cs (λ c m.
      apart_sought p z s c (partner c) (declared c m).0 (declared c m).1)

  -- ---- searches that find something in the same places
  module _ (f g : Zone → Option Zone) (same : (q : Row → Bool) (y : Zone) → Stands bs q y → is_some (f y) ≡ is_some (g y)) where
    then_some : (p q : Row → Bool) (o : Option Zone) → Left bs p q o → is_some (and_then o f) ≡ is_some (and_then o g)
    then_some p q none a = refl
    then_some p q (some y) a = same (λ r. p r && q r) y a

    clauses_some : (p : Row → Bool) (z : Zone) → Stands bs p z → (k : Condition) → T (condition_fits (length bs) k)
        → is_some (by_clause z k f) ≡ is_some (by_clause z k g)
    clauses_some p z s k fits = first_some (λ c. and_then (imposed_all z c) f) (λ c. and_then (imposed_all z c) g) k (λ c m.
        then_some p (λ r. clause_holds r c) (imposed_all z c) (clause_left bs fit p z s c (all_has (all_of (comparison_fits (length bs))) m fits)))

  -- ---- pairs of clauses
  module _ (p : Row → Bool) (z : Zone) (s : Stands bs p z) (k l : Condition) (fk : T (condition_fits (length bs) k)) (fl : T (condition_fits (length bs) l)) where
    pub pairs_some : (f g : Zone → Option Zone) → ((q : Row → Bool) (y : Zone) → Stands bs q y → is_some (f y) ≡ is_some (g y))
        → is_some (pairs_of z k l f) ≡ is_some (pairs_of z k l g)
    unfolding pairs_of
    pairs_some f g same =
        clauses_some (λ y. by_clause y l f) (λ y. by_clause y l g) (λ q y u. clauses_some f g same q y u l fl) p z s k fk

    -- so one look in each pair of clauses tells whether two columns differ in some row that meets both conditions
    pub pairs_differ : (a b : ℕ) → a < length bs → b < length bs
        → is_some (pairs_of z k l (if_differ a b))
        ≡ some_row bs (λ r. p r && (condition_holds r k && (condition_holds r l && not (eq_z (value r a) (value r b)))))
    pairs_differ a b ha hb =
        pairs_some (if_differ a b) (apart a b) (λ q y u. differ_apart q y u a b ha hb)
        ∙ sought_is bs p (λ r. condition_holds r k && (condition_holds r l && not (eq_z (value r a) (value r b)))) (pairs_of z k l (apart a b))
        (pairs_sought bs fit p z s k l fk fl (λ r. not (eq_z (value r a) (value r b))) (apart a b) (λ q y u. apart_sought q y u a b ha hb))
