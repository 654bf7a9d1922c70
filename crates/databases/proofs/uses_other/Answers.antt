-- `databases::uses_other` meets its contract. Assumes nothing.
use mathlib.Core.Path.{◌∙◌}
use mathlib.Core.Bool.{Bool, not}
use Prim.Native.Nat.{ℕ}
use borrow.Author.Rules.{rules}
use Rattle.std.proofs.lemmas.Iterator.{YieldsList-from_slice}
use Rattle.std.proofs.lemmas.Iterator.Search.{any_from_yields_List}
use Rattle.base.proofs.Lists.{any_is}
use Rattle.model.specs.Tables.{uses}
use Rattle.model.specs.Verdict.{uses_other}
use Rattle.job.specs.Meaning.{expression_of}
use Rattle.databases.proofs.uses_other.Goals as goal

pub returns : goal.returns
unfolding uses_other expression_of
returns c =
    let missing : ℕ → Bool = λ t. not (uses (expression_of c.args.f.now) t) in
    rw (← c.used_tables.ensures)
    (any_from_yields_List missing _ _ _ c.any.ensures.ran (YieldsList-from_slice _ c.iter.ensures.rest) (λ x b q k. search rules) ∙ any_is missing _)
