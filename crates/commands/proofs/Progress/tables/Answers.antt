-- `Progress::tables` meets its contract. Assumes nothing.
use Rattle.commands.proofs.Keeping.{tables_held, tables_few}
use Rattle.commands.proofs.Entries.{some_tables}
use Rattle.commands.proofs.Progress.tables.Goals as goal

pub returns : goal.returns
returns c = record {
  declared = rw (← c.self.view_is) (tables_held c.self.invariant);
  within = tables_few c.self.invariant;
  some = rw (← c.self.view_is) (some_tables c.self.invariant);
}
