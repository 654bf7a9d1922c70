-- `pobghine::write` meets its contract: 12, 17, or the job's bytes and their number. Assumes nothing.
use mathlib.Core.Path.{refl, ◌∙◌}
use Rattle.std.proofs.lemmas.Result.{err_from_is_err_and}
use Rattle.pobghine.proofs.Outcomes.{front, given, refused, never_read, too_few, enough}
use Rattle.pobghine.proofs.write.Goals as goal

pub returns-in_err-n : goal.returns-in_err-n
returns-in_err-n c =
    let (not, why) = refused _ c.write_if_read.ensures.answer c.in_err-n.was in
    let out = err_from_is_err_and c.from_residual.result c.from_residual.ensures.1 in
    let r = never_read _ _ not in
    record { answer = rw (out.1, out.2, why) r.0; bytes = r.1 }

pub returns-then-out-n : goal.returns-then-out-n
returns-then-out-n c =
    let (is, count) = given _ c.write_if_read.ensures.answer c.in_ok-n.was in
    let r = too_few _ _ is _ count c.if-out-n.true in
    record { answer = r.0; bytes = r.1 }

pub returns : goal.returns
returns c =
    let (is, count) = given _ c.write_if_read.ensures.answer c.in_ok-n.was in
    let copied = c.copy_from_slice.ensures.after ∙ front c.args.job _ _ _ count c.write_if_read.ensures.bytes in
    let r = enough c.args.job c.args.out.now is _ count c.if-out-n.false _ (rw (copied, count) refl) in
    record { answer = r.0; bytes = r.1 }
