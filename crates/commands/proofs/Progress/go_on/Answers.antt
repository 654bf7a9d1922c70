-- `Progress::go_on` meets its contract. Assumes nothing.
use mathlib.Core.Path.{◌≡◌, sym, ◌∙◌}
use mathlib.Core.Bool.{◌||◌}
use lib.ListN.{get_or}
use lib.Dec.{eqb}
use Rattle.std.proofs.lemmas.Result.{err_from_is_err_and}
use Rattle.commands.proofs.Entering.{refused, room, still_held, entered, same_byte, other_byte}
use Rattle.commands.proofs.Progress.go_on.Goals as goal
use Rattle.commands.proofs.Progress.go_on.Goals.{Joined-matches-2, then-self, else-self+in-QueryBegins, else-self+in_default, in-End, in_default-matches}

pub returns-in_err-x : goal.returns-in_err-x
returns-in_err-x c =
    let out = err_from_is_err_and c.from_residual.result c.from_residual.ensures.1 in
    rw (out.1, out.2) (refused _ _ c.requires _ (sym c.in_err-x.was ∙ c.enter.ensures))

pub add-requires : goal.add-requires
add-requires c =
    room _ _ (rw (← c.self.view_is) at c.requires) _ c.self.invariant _
    (rw (← c.self.view_is) at (sym c.in_ok-x.was ∙ c.enter.ensures))

-- the query has begun, or begins
begun : (c : Joined-matches-2) → c.if-self.self ≡ (c.self.inside.in_query || eqb (get_or c.self.inside.bytes.now c.self.inside.at 0) 0x21)
begun c =
    let listed = rw (← c.self.view_is) at c.requires.listed in
    elim c.if-self.branch [
      | then-self w ↦ rw (w.self-is, w.if-self.true)
      | else-self+in-QueryBegins w ↦
          rw (w.self-is, w.if-self.false) (same_byte _ _ _ listed w.in-QueryBegins.is)
      | else-self+in_default w ↦
          rw (w.self-is, w.if-self.false) (other_byte _ _ _ listed w.in_default.not-QueryBegins)
    ]

pub invariant_of-self : goal.invariant_of-self
invariant_of-self c =
    still_held _ _ (rw (← c.self.view_is) at c.requires) _ c.self.invariant _
    (rw (← c.self.view_is) at (sym c.in_ok-x.was ∙ c.enter.ensures)) _ c.add.ensures _ (begun c)

-- the job ends, or goes on
ended : (c : Joined-matches-2) → c.match-matches-2.matches ≡ eqb (get_or c.self.inside.bytes.now c.self.inside.at 0) 0xFF
ended c =
    let listed = rw (← c.self.view_is) at c.requires.listed in
    elim c.match-matches-2.branch [
      | in-End w ↦ rw w.matches-is (same_byte _ _ _ listed w.in-End.is)
      | in_default-matches w ↦ rw w.matches-is (other_byte _ _ _ listed w.in_default-matches.not-End)
    ]

pub returns : goal.returns
returns c =
    rw (← c.self.view_is)
    (entered _ _ (rw (← c.self.view_is) at c.requires) _ c.self.invariant _
    (rw (← c.self.view_is) at (sym c.in_ok-x.was ∙ c.enter.ensures)) _ c.add.ensures _ (begun c) _ _ c.operands.ensures (ended c))
