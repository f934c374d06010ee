use Rattle.fr_model_examples.proofs.NumberingFacts.{least_of_adding_machine, numbered, codes}
use Rattle.fr_model_examples.proofs.elements_are_numbered.Goals as goal

pub returns-clause-numbering : goal.returns-clause-numbering
returns-clause-numbering c = numbered

pub returns-clause-codes : goal.returns-clause-codes
returns-clause-codes c = codes

pub returns-clause-words : goal.returns-clause-words
returns-clause-words c = least_of_adding_machine
