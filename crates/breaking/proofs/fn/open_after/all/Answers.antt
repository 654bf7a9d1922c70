use borrow.Author.Rules.{rules}
use mathlib.Core.Path.{ap, ◌∙◌}
use Rattle.breaking.specs.Breaking.{breakable}
use Rattle.breaking.proofs.Ahead.{ahead_asks}
use Rattle.breaking.proofs.fn.open_after.all.Goals as goal

pub breakable_after-requires : goal.breakable_after-requires
breakable_after-requires g c = (search rules, rw c.as_slice.ensures (ahead_asks c.requires))

pub returns : goal.returns
returns g c = c.breakable_after.ensures ∙ ap (breakable _) c.as_slice.ensures
