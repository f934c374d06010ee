use Rattle.fr_words.proofs.Learned.{unique}
use Rattle.fr_words.proofs.laws.handles_are_unique.Goals as goal

pub returns : goal.returns
returns c = unique
