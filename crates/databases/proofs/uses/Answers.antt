-- `databases::uses` meets its contract. Assumes nothing.
use borrow.Author.Rules.{rules}
use Rattle.model.specs.Tables.{uses}
use Rattle.job.specs.Meaning.{expression_of}
use Rattle.databases.proofs.uses.Goals as goal

pub returns : goal.returns
unfolding uses expression_of
returns c = search rules
