use Rattle.fr_syntax.proofs.SizeLaws.{line-size}
use Rattle.fr_syntax.proofs.laws.lines_are_small.Goals as goal

pub returns : goal.returns
returns c = line-size
