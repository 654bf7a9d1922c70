-- `breaking::choose` meets its contract: no row obeys the way, some clause can't be broken then, or a zone is laid. Assumes nothing.
use Rattle.breaking.proofs.Chosen.{none_obeys, none_ahead, lays}
use Rattle.breaking.proofs.choose.Goals as goal
use Rattle.breaking.proofs.choose.Goals.{then-not-allows-via-then-not-allows, then-not-allows-via-else-not-allows+then-not-open_after}

pub returns-then-not-allows : goal.returns-then-not-allows
returns-then-not-allows g c = elim c.then-not-allows.branch [
  | then-not-allows-via-then-not-allows w ↦
      none_obeys _ _ _ c.allows.ensures.answer c.args.to.now w.if-not-allows.true
  | then-not-allows-via-else-not-allows+then-not-open_after w ↦
      none_ahead _ _ _ c.allows.ensures.answer w.if-not-allows.false w.open_after.ensures c.args.to.now w.if-not-open_after.true
]

pub returns : goal.returns
returns g c =
    lays _ _ _ c.allows.ensures.answer c.if-not-allows.false c.open_after.ensures c.if-not-open_after.false
    c.copy_from.ensures c.constrain.ensures.zone
