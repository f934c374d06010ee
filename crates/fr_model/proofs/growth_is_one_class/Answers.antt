use Rattle.fr_model.proofs.GrowthLaws.{activity_once, depth_once, degree_once, triple_once, finitary_or_exponential}
use Rattle.fr_model.proofs.growth_is_one_class.Goals as goal

pub returns : goal.returns
returns c = record {
  one_activity = activity_once;
  one_depth = depth_once;
  one_degree = degree_once;
  one_triple = triple_once;
  finitary_or_exponential = finitary_or_exponential;
  finitary_or_polynomial = λ d t n k f h. h.infinitary n f.inactive;
  exponential_or_polynomial = λ d t at u v k e h. h.subexponential at u v e;
}
