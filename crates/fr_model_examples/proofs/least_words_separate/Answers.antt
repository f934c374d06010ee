use Rattle.fr_model_examples.proofs.SeparationFacts.{differs_from_inverse, and_back_is_identity, words_are_ordered}
use Rattle.fr_model_examples.proofs.least_words_separate.Goals as goal

pub returns-clause-differs : goal.returns-clause-differs
returns-clause-differs c = differs_from_inverse

pub returns-clause-alike : goal.returns-clause-alike
returns-clause-alike c = and_back_is_identity

pub returns-clause-order : goal.returns-clause-order
returns-clause-order c = words_are_ordered
