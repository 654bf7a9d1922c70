-- `Progress::number_compared` meets its contract. Assumes nothing.
use Rattle.std.proofs.Common.{rules}
use Rattle.commands.proofs.Progress.number_compared.Goals as goal

pub returns-in_err-left : goal.returns-in_err-left
returns-in_err-left c = search rules
