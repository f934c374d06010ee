use Rattle.fr_model_examples.proofs.SizeFacts.{two_sections, four_pairs}
use Rattle.fr_model_examples.proofs.sizes_are_counted.Goals as goal

pub returns-clause-sections : goal.returns-clause-sections
returns-clause-sections c = two_sections

pub returns-clause-pairs : goal.returns-clause-pairs
returns-clause-pairs c = four_pairs
