-- `Progress::column_compared` meets its contract. Assumes nothing.
use Rattle.std.proofs.Common.{rules}
use Rattle.commands.proofs.Progress.column_compared.Goals as goal

pub returns-in_err-right : goal.returns-in_err-right
returns-in_err-right c = search rules
