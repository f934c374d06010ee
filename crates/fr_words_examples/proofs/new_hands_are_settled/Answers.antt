use Rattle.fr_words_examples.proofs.Settling.{new_hands}
use Rattle.fr_words_examples.proofs.new_hands_are_settled.Goals as goal

pub returns : goal.returns
returns c = new_hands
