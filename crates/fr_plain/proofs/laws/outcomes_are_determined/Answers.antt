use Rattle.fr_plain.proofs.OutcomeLaws.{outcome_once}
use Rattle.fr_plain.proofs.laws.outcomes_are_determined.Goals as goal

pub returns : goal.returns
returns c = record {
  one_making = λ d scope item o p x y. (outcome_once d scope item o p x y).steps;
  one_text = λ d scope item o p x y. (outcome_once d scope item o p x y).text;
  one_charge = λ d scope item o p x y. (outcome_once d scope item o p x y).charge;
  one_end = λ d scope item o p x y. (outcome_once d scope item o p x y).refused;
  one_scope = λ d scope item o p x y. (outcome_once d scope item o p x y).scope;
}
