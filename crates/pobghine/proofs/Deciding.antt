-- What deciding asks of a record that was judged to be read. Assumes nothing.
use mathlib.Core.Path.{◌≡◌}
use mathlib.Core.Bool.{true}
use Rattle.job.specs.declared.Job.{Job}
use Rattle.verdict.specs.Uses.{Given}
use Rattle.pobghine.specs.Records.{is_read}
use Rattle.pobghine.proofs.Judged.{judged_is}

pub is_given : (r : Job) → is_read r ≡ true → Given r.declared r.extract r.query
is_given r is = let (w, e) = judged_is r (rw is tt) in record { formed = w; laid = e }
