use Rattle.fr_plain_examples.proofs.DefinitionFacts.{block, stands_twice, bound_twice}
use Rattle.fr_plain_examples.proofs.names_are_bound.Goals as goal

pub returns-clause-block : goal.returns-clause-block
returns-clause-block c = block

pub returns-clause-twice_in_block : goal.returns-clause-twice_in_block
returns-clause-twice_in_block c = stands_twice

pub returns-clause-bound_twice : goal.returns-clause-bound_twice
returns-clause-bound_twice c = bound_twice
