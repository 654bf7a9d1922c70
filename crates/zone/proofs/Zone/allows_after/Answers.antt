use Rattle.zone.proofs.Looks.{after_straight, after_round}
use Rattle.zone.proofs.Zone.allows_after.Goals as goal

pub returns-then-entry-e-lt-TWICE : goal.returns-then-entry-e-lt-TWICE
returns-then-entry-e-lt-TWICE g c = after_straight c.entry.ensures.closed c.requires c.entry.ensures.entry c.if-entry-e-lt-TWICE.true

pub returns : goal.returns
returns g c =
    after_round c.entry.ensures.closed c.requires c.entry.ensures.entry c.entry-2.ensures.entry c.entry-3.ensures.entry c.if-entry-e-lt-TWICE.false
