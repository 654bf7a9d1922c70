-- `report::decided` meets its contract: what is decided is what is printed. Assumes nothing.
use mathlib.Core.Path.{refl}
use Rattle.base.proofs.Bytes.{puts_is}
use Rattle.report.proofs.Printed.{refused_record, judged_record}
use Rattle.report.proofs.decided.Goals as goal

pub refusal-requires : goal.refusal-requires
refusal-requires c = rw (refused_record c.args.job c.decide.ensures.kind c.in-Err.is) c.requires.0

pub verdict-requires : goal.verdict-requires
verdict-requires c = rw (judged_record c.args.job c.decide.ensures.kind c.in-Ok.is c.in-Ok.ensures.listing) c.requires.0

pub returns-in-Err : goal.returns-in-Err
returns-in-Err c = puts_is refl (refused_record c.args.job c.decide.ensures.kind c.in-Err.is) c.refusal.ensures

pub returns-in-Ok : goal.returns-in-Ok
returns-in-Ok c = puts_is refl (judged_record c.args.job c.decide.ensures.kind c.in-Ok.is c.in-Ok.ensures.listing) c.verdict.ensures
