-- `report::text` meets its contract: by what is read, and what is decided of it. Assumes nothing.
use mathlib.Core.Path.{refl}
use native.Mathlib.Omega.{arith}
use borrow.Author.Rules.{rules}
use Rattle.base.proofs.Bytes.{puts_is, put_first}
use Rattle.report.specs.Printed.{printed}
use Rattle.report.proofs.Printed.{few_read, refused_text, whole_text}
use Rattle.report.proofs.Most.{refusal_most}
use Rattle.report.proofs.text.Goals as goal
use Rattle.report.proofs.text.Goals.{in-Err, in-Ok}

pub decided-requires : goal.decided-requires
decided-requires c =
    let (few, columns) = few_read _ c.read.ensures c.in-Ok.is in
    (record { room = omega (arith, few, c.requires) }, columns)

pub refusal-requires : goal.refusal-requires
refusal-requires c =
    let few = refusal_most c.in-Err.r.fault c.in-Err.r.at (search rules) in
    record { room = omega (arith, few, c.requires) }

pub returns : goal.returns
returns c =
    let put = put_first (printed c.args.s.now) refl (search rules)
    (elim c.match-read.branch [
      | in-Ok w ↦ puts_is w.to-is (whole_text _ c.read.ensures w.in-Ok.is) w.decided.ensures
      | in-Err w ↦ puts_is w.to-is (refused_text _ c.read.ensures w.in-Err.is) w.refusal.ensures
    ]) in
    record { count = put.0; bytes = put.1 }
