-- `pobghine::decide` meets its contract. Assumes nothing.
use mathlib.Core.Path.{ap}
use Rattle.std.specs.Prelude.{Ok}
use Rattle.std.proofs.lemmas.Result.{err_from_is_err_and}
use Rattle.pobghine.specs.Deciding.{decision_of}
use Rattle.pobghine.proofs.Deciding.{is_given}
use Rattle.pobghine.proofs.Outcomes.{given, refused}
use Rattle.pobghine.proofs.decide.Goals as goal

pub returns-in_err-write_if_read : goal.returns-in_err-write_if_read
unfolding decision_of
returns-in_err-write_if_read c =
    let (not, why) = refused _ c.write_if_read.ensures.answer c.in_err-write_if_read.was in
    let out = err_from_is_err_and c.from_residual.result c.from_residual.ensures.1 in
    record { kind = rw (out.1, out.2, not, why); listing = rw out.1 tt; databases = rw out.1 tt }

pub decide-requires : goal.decide-requires
decide-requires c = is_given c.args.job (given _ c.write_if_read.ensures.answer c.in_ok-write_if_read.was).0

pub returns : goal.returns
unfolding decision_of
returns c =
    let v = c.decide.ensures in
    let is = (given _ c.write_if_read.ensures.answer c.in_ok-write_if_read.was).0 in
    record { kind = rw is (ap Ok v.kind); listing = v.listing; databases = v.databases }
