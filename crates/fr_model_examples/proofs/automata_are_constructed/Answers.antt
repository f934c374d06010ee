use Rattle.fr_model_examples.proofs.ConstructionFacts.{name_automata, closures_pass, inverse_automata, product_automata}
use Rattle.fr_model_examples.proofs.automata_are_constructed.Goals as goal

pub returns-clause-names : goal.returns-clause-names
returns-clause-names c = name_automata

pub returns-clause-closures : goal.returns-clause-closures
returns-clause-closures c = closures_pass

pub returns-clause-inverses : goal.returns-clause-inverses
returns-clause-inverses c = inverse_automata

pub returns-clause-products : goal.returns-clause-products
returns-clause-products c = product_automata
