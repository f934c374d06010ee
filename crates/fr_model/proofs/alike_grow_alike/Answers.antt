use Rattle.fr_model.proofs.GrowthLaws.{IsActivity-alike, IsFinitary-alike, IsLeastTriple-alike, HasDegree-alike}
use Rattle.fr_model.proofs.alike_grow_alike.Goals as goal

pub returns : goal.returns
returns c = record {
  activities = IsActivity-alike;
  depths = IsFinitary-alike;
  triples = IsLeastTriple-alike;
  degrees = HasDegree-alike;
}
