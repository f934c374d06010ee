use Rattle.fr_script.proofs.FitItems.{script-fits}
use Rattle.fr_script.proofs.laws.scripts_fit.Goals as goal

pub returns : goal.returns
returns c = script-fits
