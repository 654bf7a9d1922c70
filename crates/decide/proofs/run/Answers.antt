use Rattle.std.proofs.Common.{rules, arith, ◌≡◌, length, Ok}
use Rattle.decide.proofs.Streams.{prints, on_ok}
use Rattle.decide.proofs.run.Goals as goal

pub returns-clause-answer : goal.returns-clause-answer
returns-clause-answer g c =
    let s = c.read_input.new.s in
    let n = c.in_ok-n.n in
    let was : c.read_input.result ≡ Ok n = search rules in
    let full : length s ≡ 600 = search rules in
    let within = rw was at c.read_input.ensures.within in
    let bytes = rw was at c.read_input.ensures.bytes in
    let end = rw was at c.read_input.ensures.end in
    let told = prints _ _ _ _ n s full (omega (arith, full, within)) bytes (λ less. end (omega (arith, full, less))) in
    on_ok c.answer.result c.map_err-2.result c.map_err-2.ensures.variant c.answer.ensures told
