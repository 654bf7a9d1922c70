use native.Mathlib.Omega.{arith}
use lib.ListN.{get_or}
use lib.IntN.{pos}
use borrow.Author.Rules.{rules}
use Rattle.words.proofs.Stored.{stored}
use Rattle.listform.specs.Form.{number_of_found}
use Rattle.listform.proofs.Writing.{put_none, put_more}
use Rattle.listform.proofs.put.Goals as goal

pub loop-i-init : goal.loop-i-init
loop-i-init c = (search rules, rw c.from.ensures (put_none (number_of_found c.args.found) c.args.out.now (omega (arith, c.requires))))

pub loop-i-preserved : goal.loop-i-preserved
loop-i-preserved c =
    let a = c.args in
    let l = c.loop-i in
    let v = stored (get_or a.row.now l.i (pos 0)) (omega arith) in
    (search rules, rw c.write.ensures (put_more (number_of_found a.found) a.row.now l.i l.out _ c.loop-i-test.true (omega (arith, l.invariant)) v l.invariant.1))
