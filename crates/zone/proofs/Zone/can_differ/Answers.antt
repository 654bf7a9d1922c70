use Rattle.zone.proofs.Looks.{differ_there, differ_back}
use Rattle.zone.proofs.Zone.can_differ.Goals as goal

pub returns-then-entry-ne-LEVEL : goal.returns-then-entry-ne-LEVEL
returns-then-entry-ne-LEVEL g c = differ_there _ _ _ c.entry.ensures.entry c.if-entry-ne-LEVEL.true

pub returns-else-entry-ne-LEVEL : goal.returns-else-entry-ne-LEVEL
returns-else-entry-ne-LEVEL g c = differ_back _ _ _ c.entry.ensures.entry c.entry-else-entry-ne-LEVEL.ensures.entry c.if-entry-ne-LEVEL.false
