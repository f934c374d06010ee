use Rattle.fr_words.proofs.Counts.{whole}
use Rattle.fr_words.proofs.laws.whole_hands_own_all.Goals as goal

pub returns : goal.returns
returns c = whole
