use Rattle.fr_model.specs.Nuclei.{IsGeneratorSection}
use Rattle.fr_model.proofs.LimitLaws.{IsLimitSection-alike, IsNucleusMember-alike, nucleus_depth_once}
use Rattle.fr_model.proofs.nuclei_are_determined.Goals as goal

pub returns : goal.returns
returns c = record {
  alike_limits = IsLimitSection-alike;
  alike_members = λ d gens h f e m. IsNucleusMember-alike d (IsGeneratorSection d gens) h f e m;
  one_nucleus = λ d gens ns ms a b n c. a.smallest ms b.absorbs n c;
  one_depth = λ d gens k l a b. nucleus_depth_once d (IsGeneratorSection d gens) k l a b;
}
