-- `Progress::is_in_scope` meets its contract. Assumes nothing.
use native.Mathlib.Omega.{arith}
use Rattle.std.proofs.Common.{rules}
use Rattle.commands.proofs.Keeping.{width_small}
use Rattle.commands.proofs.Looks.{not_declared, scope_held}
use Rattle.commands.proofs.Progress.is_in_scope.Goals as goal

pub returns-then-k-self-clause-scoped : goal.returns-then-k-self-clause-scoped
returns-then-k-self-clause-scoped c = rw (← c.self.view_is) (not_declared _ _ c.self.invariant.laid _ _ (rw c.from-k.ensures at c.if-k-self.true))

pub bounds-self-inside-k : goal.bounds-self-inside-k
bounds-self-inside-k c = omega (arith, c.if-k-self.false, width_small c.self.invariant)

pub returns-clause-scoped : goal.returns-clause-scoped
returns-clause-scoped c =
    let laid = rw (← c.self.view_is) at c.current.ensures.laid in
    let below = rw c.from-k.ensures at c.if-k-self.false in
    rw (← c.self.view_is, ← scope_held _ _ c.self.invariant.laid _ _ below _ laid, ← c.used_tables.ensures) (search rules)

pub returns-clause-within : goal.returns-clause-within
returns-clause-within c = λ _. omega (arith, c.from-k.ensures, c.if-k-self.false, width_small c.self.invariant)
