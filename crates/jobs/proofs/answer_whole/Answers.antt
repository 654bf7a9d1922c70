-- What is written of a job is part of `out`.
use Rattle.std.proofs.Common.{sym, arith, length-take-le}
use Rattle.pobghine.proofs.Counts.{count_fits}
use Rattle.jobs.proofs.answer_whole.Goals as goal

pub slice_bounds-out-end : goal.slice_bounds-out-end
slice_bounds-out-end g c = omega (arith, count_fits _ _ _ (sym c.in-Ok.ensures.answer), c.write.auto.out)

pub slice_bounds-write_all-end : goal.slice_bounds-write_all-end
slice_bounds-write_all-end g c =
    let most = count_fits _ _ _ (sym c.in-Ok.ensures.answer) in
    sym (length-take-le _ _ (omega (arith, most, c.write.auto.out)))
