use Rattle.fr_layout.proofs.Stays.{stays}
use Rattle.fr_layout.proofs.laws.written_blocks_stay.Goals as goal

pub returns : goal.returns
returns c = stays
