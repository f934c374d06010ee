use Rattle.fr_model_examples.proofs.TermFacts.{over_two_letters}
use Rattle.fr_model_examples.proofs.terms_are_over_letters.Goals as goal

pub returns : goal.returns
returns c = over_two_letters
