-- `pobghine::write_if_read` meets its contract: what is read of what was written decides. Assumes nothing.
use mathlib.Core.Path.{sym, ap, ◌∙◌}
use Rattle.std.specs.Prelude.{Ok}
use Rattle.job.proofs.Derived.{derived_is}
use Rattle.pobghine.proofs.Judged.{judged_whole, judged_refused}
use Rattle.pobghine.proofs.write_if_read.Goals as goal

pub returns-in-Ok-clause-answer : goal.returns-in-Ok-clause-answer
returns-in-Ok-clause-answer c =
    let w = c.write-n.ensures in
    let same = c.eq.ensures ∙ derived_is c.args.job c.in-Ok.again ∙ judged_whole _ _ w.count w.bytes c.read.ensures c.in-Ok.is in
    rw (sym same ∙ c.if-eq.true) (ap Ok w.count)

pub returns-in_default-clause-answer : goal.returns-in_default-clause-answer
returns-in_default-clause-answer c =
    let w = c.write-n.ensures in
    let same = c.eq.ensures ∙ derived_is c.args.job c.in-Ok.again ∙ judged_whole _ _ w.count w.bytes c.read.ensures c.in-Ok.is in
    rw (sym same ∙ c.if-eq.false)

pub returns-in_default-2-clause-answer : goal.returns-in_default-2-clause-answer
returns-in_default-2-clause-answer c =
    let w = c.write-n.ensures in
    rw (sym (judged_refused _ _ w.count w.bytes c.read.ensures c.in_default.is))
