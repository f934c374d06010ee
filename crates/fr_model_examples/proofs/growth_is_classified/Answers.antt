use Rattle.fr_model_examples.proofs.GrowthFacts.{second_swap_active, swap_finitary, adding_bounded, lamplighter_exponential, over_one_letter}
use Rattle.fr_model_examples.proofs.LinearFacts.{linear_growth_linear}
use Rattle.fr_model_examples.proofs.growth_is_classified.Goals as goal

pub returns-clause-active : goal.returns-clause-active
returns-clause-active c = second_swap_active

pub returns-clause-finitary : goal.returns-clause-finitary
returns-clause-finitary c = swap_finitary

pub returns-clause-bounded : goal.returns-clause-bounded
returns-clause-bounded c = adding_bounded

pub returns-clause-exponential : goal.returns-clause-exponential
returns-clause-exponential c = lamplighter_exponential

pub returns-clause-letters : goal.returns-clause-letters
returns-clause-letters c = over_one_letter

pub returns-clause-linear : goal.returns-clause-linear
returns-clause-linear c = linear_growth_linear
