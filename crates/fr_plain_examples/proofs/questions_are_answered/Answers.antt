use Rattle.fr_plain_examples.proofs.QuestionFacts.{product_of_ones, order_of_one, unknown_name, nucleus_of_one}
use Rattle.fr_plain_examples.proofs.questions_are_answered.Goals as goal

pub returns-clause-product : goal.returns-clause-product
returns-clause-product c = product_of_ones

pub returns-clause-order : goal.returns-clause-order
returns-clause-order c = order_of_one

pub returns-clause-unknown : goal.returns-clause-unknown
returns-clause-unknown c = unknown_name

pub returns-clause-nucleus : goal.returns-clause-nucleus
returns-clause-nucleus c = nucleus_of_one
