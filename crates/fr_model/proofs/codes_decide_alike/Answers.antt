use Rattle.fr_model.proofs.CanonicalLaws.{canonical_same, canonical_alike}
use Rattle.fr_model.proofs.CodeLaws.{canonical-IsSize, code-same, IsCanonical-alike, IsCode-alike, alike_from_code}
use Rattle.fr_model.proofs.codes_decide_alike.Goals as goal

pub returns : goal.returns
returns c = record {
  one_automaton = λ d t u ps qs h a b. canonical_same d t u ps qs a b h;
  stands = λ d t qs g a. canonical_alike d t g qs a;
  alike_automata = IsCanonical-alike;
  alike_codes = IsCode-alike;
  size = canonical-IsSize;
  codes = λ d t u a b g h x y. (alike_from_code d t u a b g h x y, code-same d t u a b x y);
}
