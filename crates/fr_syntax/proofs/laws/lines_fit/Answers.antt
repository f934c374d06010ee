use Rattle.fr_syntax.proofs.FitLaws.{line-fits}
use Rattle.fr_syntax.proofs.laws.lines_fit.Goals as goal

pub returns : goal.returns
returns c = line-fits
