use Rattle.fr_script.proofs.BlockLaws.{some_script}
use Rattle.fr_script.proofs.laws.scripts_exist.Goals as goal

pub returns : goal.returns
returns c = some_script
