use Rattle.fr_plain_examples.proofs.ConjugateFacts.{conjugates, commutators}
use Rattle.fr_plain_examples.proofs.conjugates_are_expanded.Goals as goal

pub returns-clause-conjugate : goal.returns-clause-conjugate
returns-clause-conjugate c = conjugates

pub returns-clause-commutator : goal.returns-clause-commutator
returns-clause-commutator c = commutators
