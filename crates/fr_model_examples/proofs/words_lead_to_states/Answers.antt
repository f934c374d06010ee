use Rattle.fr_model_examples.proofs.WalkFacts.{reached, limits}
use Rattle.fr_model_examples.proofs.words_lead_to_states.Goals as goal

pub returns-clause-reached : goal.returns-clause-reached
returns-clause-reached c = reached

pub returns-clause-limits : goal.returns-clause-limits
returns-clause-limits c = limits
