-- `databases::least_of` meets its contract. Assumes nothing.
use Rattle.databases.proofs.Pairing.{least_read}
use Rattle.databases.proofs.least_of.Goals as goal

pub returns : goal.returns
returns g c = least_read c.args.z.now c.nodes-n.ensures.nodes c.read_least.ensures
