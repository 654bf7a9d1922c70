-- Comparisons as constraints on nodes: column c is node c + 1, and a number is that much more than node 0.
use Rattle.std.specs.Prelude.{List, [], ◌∷◌, ℕ, suc, ◌-◌, ◌*◌, Option, Some, None}
use Rattle.words.specs.Bias.{biased}
use Rattle.words.specs.declared.Op.{Op}
use Rattle.words.specs.declared.Op.TheVariants.{Less, AtMost, Equal, AtLeast, More}
use Rattle.model.specs.Tables.{Against, column, number, Comparison}
use Rattle.zone.specs.declared.Constraint.{Constraint}
use Rattle.zone.specs.Zone.{level}
use Rattle.solver.specs.declared.Constraints.{Constraints}

-- the right side of a comparison: a node, and how much is added to it, `level` more
abbrev pub node_of : Against → ℕ
node_of (column c) = suc c
node_of (number v) = 0

abbrev pub added_to : Against → ℕ
added_to (column c) = level
added_to (number v) = biased level v

-- a comparison over nodes: the left one compared by op with the right one and what is added to it
pub record Nodes : Type 0 where
  pub op : Op
  pub left : ℕ
  pub right : ℕ
  pub added : ℕ

abbrev pub over_nodes : Comparison → Nodes
over_nodes k = record { op = k.op; left = suc k.left; right = node_of k.right; added = added_to k.right }

-- node a exceeds node b by at most what w allows
abbrev pub at_most_by : ℕ → ℕ → ℕ → Constraint
at_most_by a b w = record { left = a; right = b; most = w }

abbrev pub one : Constraint → Constraints
one c = record { first = c; second = None }

abbrev pub both : Constraint → Constraint → Constraints
both c e = record { first = c; second = Some e }

abbrev pub if_second : Option Constraint → List Constraint
if_second None = []
if_second (Some c) = c ∷ []

abbrev pub list_of : Constraints → List Constraint
list_of p = p.first ∷ if_second p.second

-- node a compared by op with node b and what is added to it
abbrev pub between : Op → ℕ → ℕ → ℕ → Constraints
between Less a b w = one (at_most_by a b (w - 1))
between AtMost a b w = one (at_most_by a b w)
between Equal a b w = both (at_most_by a b w) (at_most_by b a (2 * level - w))
between AtLeast a b w = one (at_most_by b a (2 * level - w))
between More a b w = one (at_most_by b a (2 * level - w - 1))

-- a comparison holds where all of these do
unfoldable pub constraints_of : Comparison → Constraints
constraints_of k = between k.op (suc k.left) (node_of k.right) (added_to k.right)

-- one of these ops holds exactly where an op doesn't: two ways for "equal", one for the others
abbrev pub opposites : Op → List Op
opposites Less = AtLeast ∷ []
opposites AtMost = More ∷ []
opposites Equal = Less ∷ More ∷ []
opposites AtLeast = Less ∷ []
opposites More = AtMost ∷ []

-- the constraints of the opposites: the comparison fails where one of these holds
abbrev pub against : Op → ℕ → ℕ → ℕ → Constraints
against Less a b w = between AtLeast a b w
against AtMost a b w = between More a b w
against Equal a b w = both (between Less a b w).first (between More a b w).first
against AtLeast a b w = between Less a b w
against More a b w = between AtMost a b w

unfoldable pub negations_of : Comparison → Constraints
negations_of k = against k.op (suc k.left) (node_of k.right) (added_to k.right)
