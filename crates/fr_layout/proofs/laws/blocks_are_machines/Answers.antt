use Rattle.fr_layout.proofs.Machines.{machines}
use Rattle.fr_layout.proofs.laws.blocks_are_machines.Goals as goal

pub returns : goal.returns
returns c = machines
