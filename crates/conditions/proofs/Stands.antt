-- Zones that stand for the rows within bounds that meet a test: the box, one constraint, comparison or clause more, and what is read off them. Assumes nothing.
use mathlib.Core.Path.{◌≡◌, ◌∙◌}
use mathlib.Core.Logic.{◌↔◌}
use mathlib.Core.Bool.{Bool, true, not, ◌&&◌}
use mathlib.Core.List.{List}
use mathlib.Core.Option.{Option, none, some}
use Prim.Native.Nat.{ℕ, suc, ◌+◌, ◌<◌}
use native.Mathlib.Omega.{arith}
use lib.ListN.{length}
use lib.Dec.{T, T_not, not_T, leb, leb→le, le→leb, eqb→eq, eqb_refl}
use mir.Facts.{and_yes, yes_and}
use Rattle.base.specs.Lists.{all_of, at}
use Rattle.solver.specs.Obeying.{ObeysAll}
use Rattle.base.proofs.Lists.{pairwise_length}
use Rattle.base.proofs.Tests.{same_test}
use Rattle.words.specs.Bias.{bias, biased}
use Rattle.words.specs.Compare.{eq_z}
use Rattle.words.proofs.Biases.{biased_eq}
use Rattle.model.specs.Tables.{Row, Comparison, Clause, value, comparison_holds, clause_holds, within, inside}
use Rattle.model.specs.declared.Bounds.{Bounds}
use Rattle.model.specs.Rows.{some_row}
use Rattle.model.proofs.Rows.{some_has, has_some}
use Rattle.zone.specs.declared.Constraint.{Constraint}
use Rattle.zone.specs.Zone.{Zone, level, Meets, Obeys, Closed, allows, tightened, least_of, can_differ}
use Rattle.zone.proofs.Closed.{least_meets, obeyed_allowed, tight_length, tight_closed, tight_meets}
use Rattle.zone.proofs.Answers.{Answers}
use Rattle.zone.proofs.Projection.{differ_is}
use Rattle.solver.specs.Comparisons.{list_of, constraints_of}
use Rattle.solver.specs.Solver.{bounds_fit, comparison_fits, solvable, nodes, row_of, box_of, imposed, imposed_all}
use Rattle.solver.proofs.Nodes.{within_from, map_at, nodes_length, nodes_closed, row_meets, meets_row}
use Rattle.solver.proofs.Comparisons.{comparison_says}
use Rattle.solver.proofs.Solver.{ObeysList, list_says, imposed_answers, list_answers}

-- z is closed, and its rows are the rows within bounds that meet p
pub record Stands (bs : List Bounds) (p : Row → Bool) (z : Zone) : Type 0 where
  pub closed : Closed z
  pub size : length z ≡ suc (length bs)
  pub says : (r : Row) → T (within bs r) → T (p r) ↔ Meets z (nodes r)
  pub back : (x : List ℕ) → Meets z x → T (within bs (row_of x)) × (nodes (row_of x) ≡ x)

-- the rows that meet p and q as one zone, or none where there is none
abbrev pub Left : List Bounds → (Row → Bool) → (Row → Bool) → Option Zone → Type 0
Left bs p q none = (r : Row) → T (within bs r) → T (p r) → T (q r) → ⊥
Left bs p q (some y) = Stands bs (λ r. p r && q r) y

-- a row of values obeys a constraint on its nodes
abbrev pub obeys : Row → Constraint → Bool
obeys r c = leb (at (nodes r) c.left + level) (at (nodes r) c.right + c.most)

pub obeys_is : (r : Row) (c : Constraint) → T (obeys r c) ↔ Obeys c (nodes r)
obeys_is r c = (λ t. leb→le _ _ t, λ h. le→leb _ _ h)

module _ (bs : List Bounds) (p : Row → Bool) (z : Zone) (s : Stands bs p z) where
  -- what zones say of nodes, said of rows
  answers_left : (q : Row → Bool) (P : List ℕ → Type 0) → ((r : Row) → T (within bs r) → T (q r) ↔ P (nodes r))
      → (o : Option Zone) → Answers z P o → Left bs p q o
  answers_left q P is none a = λ r w h k. a (nodes r) ((s.says r w).0 h) ((is r w).0 k)
  answers_left q P is (some y) (cl, e, rows) = record {
    closed = cl;
    size = e ∙ s.size;
    says = λ r w. (
      λ t. let (h, k) = and_yes (p r) (q r) t in (rows (nodes r)).1 ((s.says r w).0 h, (is r w).0 k),
      λ m. let (n, k) = (rows (nodes r)).0 m in yes_and (p r) (q r) ((s.says r w).1 n) ((is r w).1 k),
    );
    back = λ x m. s.back x ((rows x).0 m).0;
  }

  -- ---- one constraint more
  module _ (c : Constraint) (hl : c.left < suc (length bs)) (hr : c.right < suc (length bs)) where
    pub obeyed_allows : (r : Row) → T (within bs r) → T (p r) → T (obeys r c) → T (allows z c)
    obeyed_allows r w h k =
        obeyed_allowed z c (omega (arith, s.size)) (omega (arith, s.size)) (nodes r) ((s.says r w).0 h) ((obeys_is r c).0 k)

    pub way_stands : T (allows z c) → Stands bs (λ r. p r && obeys r c) (tightened z c)
    way_stands ok =
        let l : c.left < length z = omega (arith, s.size) in
        let r : c.right < length z = omega (arith, s.size) in
        answers_left (λ r. obeys r c) (Obeys c) (λ r w. obeys_is r c) (some (tightened z c))
        (tight_closed z c s.closed l r ok, tight_length z c, tight_meets z c s.closed l r ok)

  -- ---- its least row
  pub least_stands : T (within bs (row_of (least_of z))) × T (p (row_of (least_of z)))
  least_stands =
      let m = least_meets z s.closed in
      let (w, e) = s.back (least_of z) m in
      (w, (s.says (row_of (least_of z)) w).1 (rw e m))

module _ (bs : List Bounds) (fit : T (all_of bounds_fit bs)) where
  -- ---- the box
  pub box_stands : Stands bs (λ r. true) (box_of bs)
  box_stands = record {
    closed = nodes_closed bs fit;
    size = nodes_length bs fit;
    says = λ r w. (λ t. row_meets bs fit r w, λ m. tt);
    back = meets_row bs fit;
  }

  module _ (p : Row → Bool) (z : Zone) (s : Stands bs p z) where
    -- ---- a comparison or a clause more
    pub comparison_left : (k : Comparison) → T (comparison_fits (length bs) k) → Left bs p (λ r. comparison_holds r k) (imposed z k)
    comparison_left k f = answers_left bs p z s (λ r. comparison_holds r k) (ObeysAll (list_of (constraints_of k)))
        (λ r w. comparison_says bs fit r w k f)
        (imposed z k) (imposed_answers (length bs) z k s.closed s.size f)

    pub clause_left : (c : Clause) → T (all_of (comparison_fits (length bs)) c) → Left bs p (λ r. clause_holds r c) (imposed_all z c)
    unfolding solvable
    clause_left c f = answers_left bs p z s (λ r. clause_holds r c) (ObeysList c)
        (λ r w. list_says bs c (yes_and (all_of bounds_fit bs) (all_of (comparison_fits (length bs)) c) fit f) r w)
        (imposed_all z c) (list_answers (length bs) z c s.closed s.size f)

    -- ---- two columns that can differ
    module _ (a b : ℕ) (ha : a < length bs) (hb : b < length bs) where
      -- the values are the same where the nodes are
      value_node : (r : Row) → T (within bs r) → (c : ℕ) → c < length bs → at (nodes r) (suc c) ≡ biased bias (value r c)
      value_node r w c h = map_at r c (omega (arith, pairwise_length inside bs r w))

      same_nodes : (r : Row) → T (within bs r) → T (eq_z (value r a) (value r b)) ↔ (at (nodes r) (suc a) ≡ at (nodes r) (suc b))
      same_nodes r w =
          let e = biased_eq bias (value r a) (value r b) (within_from bs r fit w a ha) (within_from bs r fit w b hb) in (
            λ t. value_node r w a ha ∙ eqb→eq (biased bias (value r a)) (biased bias (value r b)) (rw e at t) ∙ (let q = value_node r w b hb in rw q),
            λ q. rw (e, ← (value_node r w a ha), ← (value_node r w b hb), q) (eqb_refl (at (nodes r) (suc b))),
          )

      -- some row of the zone has different values in them
      pub differ_stands : T (can_differ z (suc a) (suc b)) ↔ ((r : Row) × T (within bs r) × T (p r) × T (not (eq_z (value r a) (value r b))))
      differ_stands =
          let is = differ_is z s.closed (suc a) (suc b) (omega (arith, s.size)) (omega (arith, s.size)) in (
            λ t.
                let (x, m, n) = is.0 t in
                let (w, e) = s.back x m in
                let r = row_of x in
                (r, w, (s.says r w).1 (rw e m), not_T (eq_z (value r a) (value r b)) (λ q. n (rw e at ((same_nodes r w).0 q)))),
            λ (r, w, h, d). is.1 (nodes r, (s.says r w).0 h, λ q. T_not (eq_z (value r a) (value r b)) d ((same_nodes r w).1 q)),
          )

      pub differ_sought : can_differ z (suc a) (suc b) ≡ some_row bs (λ r. p r && not (eq_z (value r a) (value r b)))
      differ_sought = same_test (can_differ z (suc a) (suc b)) (some_row bs other)
          (λ t. let (r, w, h, d) = differ_stands.0 t in has_some bs other r w (yes_and (p r) (not (eq_z (value r a) (value r b))) h d))
          (λ t.
          let (r, w, k) = some_has bs other t in
          let (h, d) = and_yes (p r) (not (eq_z (value r a) (value r b))) k in
          differ_stands.1 (r, w, h, d))
        where
          other : Row → Bool
          other r = p r && not (eq_z (value r a) (value r b))
