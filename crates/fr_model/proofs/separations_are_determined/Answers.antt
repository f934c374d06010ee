use Rattle.fr_model.proofs.CodeLaws.{separation_once, separating_word_once, separating_word_unlike, separation_alike}
use Rattle.fr_model.proofs.separations_are_determined.Goals as goal

pub returns : goal.returns
returns c = record {
  one_answer = separation_once;
  one_word = separating_word_once;
  unlike = separating_word_unlike;
  alike_answers = separation_alike;
}
