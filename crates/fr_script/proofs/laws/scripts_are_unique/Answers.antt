use Rattle.fr_script.proofs.BlockLaws.{one_script}
use Rattle.fr_script.proofs.laws.scripts_are_unique.Goals as goal

pub returns : goal.returns
returns c = one_script
