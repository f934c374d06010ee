use Rattle.fr_words.proofs.Standing.{cells}
use Rattle.fr_words.proofs.laws.cells_are_unique.Goals as goal

pub returns : goal.returns
returns c = cells
