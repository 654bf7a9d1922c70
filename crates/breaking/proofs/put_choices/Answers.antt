use mathlib.Core.Path.{◌≡◌, ap, sym, ◌∙◌}
use native.Mathlib.Omega.{arith}
use borrow.Author.Rules.{rules}
use Prim.Native.Nat.{◌<◌}
use lib.ListN.{length}
use Rattle.job.specs.Meaning.{condition_of}
use Rattle.conditions.proofs.Clauses.{condition_length, clause_at}
use Rattle.breaking.specs.Breaking.{ways_of}
use Rattle.breaking.proofs.Filling.{lay_clause, lay_spare, lay_end}
use Rattle.breaking.proofs.put_choices.Goals as goal
use Rattle.breaking.proofs.put_choices.Goals.{then-q-k, else-q-k}

pub set-requires : goal.set-requires
set-requires c = c.requires.comparisons c.loop-q.q (omega (arith, c.if-q-k.true, c.requires.clauses))

pub loop-q-preserved : goal.loop-q-preserved
loop-q-preserved c =
    let four : length c.args.k.now.clauses ≡ 4 = search rules in
    let few = c.requires.clauses in
    let size : length (condition_of c.args.k.now) ≡ c.args.k.now.size = condition_length c.args.k.now (omega arith) in
    let more : c.loop-q.q < 4 = omega (arith, c.loop-q-test.true, c.loop-q.invariant.four) in
    elim c.if-q-k.branch [
      | then-q-k w ↦
          let is = clause_at c.args.k.now (omega arith) w.if-q-k.true in
          rw w.ways-items-is (lay_clause c.loop-q.invariant _ more (omega arith) (w.set.ensures.ways ∙ ap ways_of (sym is)) w.set.ensures.few)
      | else-q-k w ↦ rw w.ways-items-is (lay_spare c.loop-q.invariant _ more (omega arith) w.put.ensures.ways (omega (arith, w.put.ensures.few)))
    ]

pub returns-clause-ways : goal.returns-clause-ways
returns-clause-ways c =
    let four : length c.args.k.now.clauses ≡ 4 = search rules in
    let few = c.requires.clauses in
    let size : length (condition_of c.args.k.now) ≡ c.args.k.now.size = condition_length c.args.k.now (omega arith) in
    lay_end c.loop-q.invariant _ (omega (arith, c.loop-q-test.false, c.loop-q.invariant.four)) (omega arith)

pub returns-clause-size : goal.returns-clause-size
returns-clause-size c =
    let four : length c.args.k.now.clauses ≡ 4 = search rules in
    sym (condition_length c.args.k.now (omega (arith, c.requires.clauses)))
