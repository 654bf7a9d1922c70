-- `solver::added_to` meets its contract. Assumes nothing.
-- what the call gives: the number, the bias more
use mathlib.Core.Path.{◌≡◌, ap, ◌∙◌}
use native.Mathlib.Omega.{arith}
use mir.Facts.{to_z-of_z}
use borrow.Author.Tests.{eq-eqb, ne_eqb}
use Rattle.words.specs.Bias.{bias, biased}
use Rattle.words.proofs.Biases.{word_from, word_below}
use Rattle.solver.proofs.Comparisons.{number_added}
use Rattle.solver.proofs.added_to.Goals as goal

given : (c : goal.After-to_biased) → c.to_biased.result ≡ biased bias c.args.number
given c = c.to_biased.ensures ∙ ap (biased bias) (to_z-of_z c.ranges.number)

pub overflow_add-result : goal.overflow_add-result
overflow_add-result c = record { fits = let v = c.args.number in omega (arith, given c, word_below v c.ranges.number.sfits) }

pub returns-then-right-eq0 : goal.returns-then-right-eq0
returns-then-right-eq0 c =
    let v = c.args.number in
    rw (eq-eqb _ 0 c.if-right-eq0.true) (omega (arith, given c, number_added v (word_from v c.ranges.number.sfits)))

pub returns-else-right-eq0 : goal.returns-else-right-eq0
returns-else-right-eq0 c = rw (ne_eqb _ 0 c.if-right-eq0.false)
