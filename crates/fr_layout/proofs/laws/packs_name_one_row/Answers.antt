use Rattle.fr_layout.proofs.Numbers.{packs}
use Rattle.fr_layout.proofs.laws.packs_name_one_row.Goals as goal

pub returns : goal.returns
returns c = packs
