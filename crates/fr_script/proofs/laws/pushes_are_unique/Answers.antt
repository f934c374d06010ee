use Rattle.fr_script.proofs.ByLines.{one_push}
use Rattle.fr_script.proofs.laws.pushes_are_unique.Goals as goal

pub returns : goal.returns
returns c = one_push
