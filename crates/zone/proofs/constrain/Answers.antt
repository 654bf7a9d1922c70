-- `zone::constrain` meets its contract, by cases: no row of the zone obeys the constraint, each does, or some do. Assumes nothing.
use Rattle.zone.proofs.Turns.{kept_none, kept_some, kept_all, can_tighten}
use Rattle.zone.proofs.constrain.Goals as goal

pub returns-then-not-allows : goal.returns-then-not-allows
returns-then-not-allows c = let r = kept_none c.requires c.allows.ensures c.if-not-allows.true-raw in record { answer = r.0; zone = r.1 }

pub returns-then-d-k : goal.returns-then-d-k
returns-then-d-k c =
    let t = c.allows in
    let s = c.if-not-allows in
    let r = kept_all c.requires t.ensures s.false-raw c.if-d-k.true in record { answer = r.0; zone = r.1 }

pub tighten-requires : goal.tighten-requires
tighten-requires c =
    let t = c.allows in
    let s = c.if-not-allows in
    can_tighten c.requires t.ensures s.false-raw

pub returns : goal.returns
returns c =
    let t = c.allows in
    let s = c.if-not-allows in
    let u = c.requires in
    let r = kept_some u t.ensures s.false-raw c.tighten.ensures in record { answer = r.0; zone = r.1 }
