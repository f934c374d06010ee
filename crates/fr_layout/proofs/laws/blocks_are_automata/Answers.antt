use Rattle.fr_layout.proofs.Automata.{blocks}
use Rattle.fr_layout.proofs.laws.blocks_are_automata.Goals as goal

pub returns : goal.returns
returns c = blocks
