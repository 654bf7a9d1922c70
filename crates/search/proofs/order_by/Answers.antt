-- `search::order_by` meets its contract. Assumes nothing.
use native.Mathlib.Omega.{arith}
use Rattle.search.specs.Order.{order_by}
use Rattle.search.proofs.Order.{declared_four, exchanged_four}
use Rattle.search.proofs.order_by.Goals as goal

pub exchange-a-requires : goal.exchange-a-requires
exchange-a-requires c = (declared_four.below, omega arith)

pub exchange-b-requires : goal.exchange-b-requires
exchange-b-requires c = ((exchanged_four c.args.weights 0 declared_four c.exchange-a.ensures).below, omega arith)

pub exchange-c-requires : goal.exchange-c-requires
exchange-c-requires c = (
  (exchanged_four c.args.weights 1 (exchanged_four c.args.weights 0 declared_four c.exchange-a.ensures)
      c.exchange-b.ensures).below,
  omega arith,
)

pub exchange-d-requires : goal.exchange-d-requires
exchange-d-requires c = (
  (exchanged_four c.args.weights 2
      (exchanged_four c.args.weights 1 (exchanged_four c.args.weights 0 declared_four c.exchange-a.ensures) c.exchange-b.ensures)
      c.exchange-c.ensures).below,
  omega arith,
)

pub exchange-e-requires : goal.exchange-e-requires
exchange-e-requires c = (
  (exchanged_four c.args.weights 0
      (exchanged_four c.args.weights 2 (exchanged_four c.args.weights 1 (exchanged_four c.args.weights 0 declared_four c.exchange-a.ensures)
      c.exchange-b.ensures) c.exchange-c.ensures) c.exchange-d.ensures).below,
  omega arith,
)

pub exchange-requires : goal.exchange-requires
exchange-requires c = (
  (exchanged_four c.args.weights 1
      (exchanged_four c.args.weights 0 (exchanged_four c.args.weights 2
      (exchanged_four c.args.weights 1 (exchanged_four c.args.weights 0 declared_four c.exchange-a.ensures) c.exchange-b.ensures)
      c.exchange-c.ensures) c.exchange-d.ensures) c.exchange-e.ensures).below,
  omega arith,
)

pub returns : goal.returns
unfolding order_by
returns c = rw (
  c.exchange.ensures,
  c.exchange-e.ensures,
  c.exchange-d.ensures,
  c.exchange-c.ensures,
  c.exchange-b.ensures,
  c.exchange-a.ensures,
)
