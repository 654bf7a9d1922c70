use mathlib.Core.Path.{◌∙◌}
use native.Mathlib.Omega.{arith}
use borrow.Author.Rules.{rules}
use borrow.Author.Tests.{ne_eqb}
use Rattle.std.proofs.lemmas.List.{length_push}
use Rattle.std.proofs.lemmas.Slice.Zip.{zip_turn, zip_end}
use Rattle.zone.proofs.Held.{closed_is}
use Rattle.zone.proofs.Values.{raise_size, raise_start, raise_turn, raise_asks, extends_not, extends_has}
use Rattle.zone.proofs.Zone.extend.Goals as goal

pub loop-p-init : goal.loop-p-init
loop-p-init g c = raise_start c.least.ensures

pub loop-p-preserved : goal.loop-p-preserved
loop-p-preserved g c =
    let (left, _, node, value) = zip_turn c.args.ps.now c.args.vs.now c.loop-p.yielded c.into_iter-p-iterator.result c.loop-p.p-iterator
    c.next.new.self _ (search) (search) c.loop-p.yielded_by _ c.in-Some.is c.next.ensures.steps in
    let done = raise_turn c.requires.given c.loop-p.invariant left (c.from.ensures ∙ node 0) (value 0) c.raise.ensures in
    rw (length_push c.loop-p.yielded (c.in-Some.p, c.in-Some.v)) done

pub bounds-x-0 : goal.bounds-x-0
bounds-x-0 g c = omega (arith, raise_size c.loop-p.invariant, (closed_is c.self.invariant c.self.view_is).some_node)

pub raise-requires : goal.raise-requires
raise-requires g c =
    let (left, _, node, value) = zip_turn c.args.ps.now c.args.vs.now c.loop-p.yielded c.into_iter-p-iterator.result c.loop-p.p-iterator
    c.next.new.self _ (search) (search) c.loop-p.yielded_by _ c.in-Some.is c.next.ensures.steps in
    let (inside, within, size) = raise_asks c.requires.given c.loop-p.invariant left (c.from.ensures ∙ node 0) (value 0) in
    (search rules, (inside, (within, size)))

pub returns-then-x-eq-BIAS-clause-answer : goal.returns-then-x-eq-BIAS-clause-answer
returns-then-x-eq-BIAS-clause-answer g c =
    let all = zip_end c.args.ps.now c.args.vs.now c.loop-p.yielded c.into_iter-p-iterator.result c.loop-p.p-iterator c.next.new.self _
    (search) (search) c.loop-p.yielded_by c.in-None.is c.next.ensures.steps in
    extends_has c.requires.given c.loop-p.invariant all c.if-x-eq-BIAS.true c.has_values.ensures

pub returns-else-x-eq-BIAS-clause-answer : goal.returns-else-x-eq-BIAS-clause-answer
returns-else-x-eq-BIAS-clause-answer g c =
    let all = zip_end c.args.ps.now c.args.vs.now c.loop-p.yielded c.into_iter-p-iterator.result c.loop-p.p-iterator c.next.new.self _
    (search) (search) c.loop-p.yielded_by c.in-None.is c.next.ensures.steps in
    ne_eqb _ _ c.if-x-eq-BIAS.false ∙ extends_not c.requires.given c.loop-p.invariant all c.if-x-eq-BIAS.false
