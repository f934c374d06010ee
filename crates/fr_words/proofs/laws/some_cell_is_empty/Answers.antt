use Rattle.fr_words.proofs.Pigeons.{some_empty}
use Rattle.fr_words.proofs.laws.some_cell_is_empty.Goals as goal

pub returns : goal.returns
returns c = some_empty
