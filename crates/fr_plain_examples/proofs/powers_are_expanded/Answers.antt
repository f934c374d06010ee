use Rattle.fr_plain_examples.proofs.PowerFacts.{fifth, zeroth, of_inverse}
use Rattle.fr_plain_examples.proofs.powers_are_expanded.Goals as goal

pub returns-clause-fifth : goal.returns-clause-fifth
returns-clause-fifth c = fifth

pub returns-clause-zeroth : goal.returns-clause-zeroth
returns-clause-zeroth c = zeroth

pub returns-clause-of_inverse : goal.returns-clause-of_inverse
returns-clause-of_inverse c = of_inverse
