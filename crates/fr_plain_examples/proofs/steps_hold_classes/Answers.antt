use Rattle.fr_plain_examples.proofs.HeldFacts.{adding, none}
use Rattle.fr_plain_examples.proofs.steps_hold_classes.Goals as goal

pub returns-clause-adding : goal.returns-clause-adding
returns-clause-adding c = adding

pub returns-clause-none : goal.returns-clause-none
returns-clause-none c = none
