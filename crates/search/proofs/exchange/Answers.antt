-- `search::exchange` meets its contract. Assumes nothing.
use native.Mathlib.Omega.{arith}
use borrow.Author.Rules.{rules}
use mathlib.Core.Path.{◌≡◌, ◌∙◌}
use native.Mathlib.Numerals.{add-one}
use lib.ListN.{length}
use borrow.Author.Tests.{lt-ltb, le-ltb}
use Rattle.search.proofs.Order.{exchanged_swaps, exchanged_stays}
use Rattle.search.proofs.exchange.Goals as goal

pub returns-then-weights-order : goal.returns-then-weights-order
returns-then-weights-order c =
    let four : length c.args.order ≡ 4 = search (rules, c.well_formed.0) in
    c.swap.ensures.after
    ∙ (rw (← (add-one c.args.i)) at (exchanged_swaps c.args.weights c.args.i c.args.order (omega (arith, four, c.requires.1))
    (rw (add-one c.args.i) at (lt-ltb _ _ c.if-weights-order.true))))

pub returns-else-weights-order : goal.returns-else-weights-order
returns-else-weights-order c =
    let four : length c.args.order ≡ 4 = search (rules, c.well_formed.0) in
    exchanged_stays c.args.weights c.args.i c.args.order (omega (arith, four, c.requires.1))
    (rw (add-one c.args.i) at (le-ltb _ _ c.if-weights-order.false))
