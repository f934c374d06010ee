use Rattle.fr_script.proofs.CycleImages.{same-images}
use Rattle.fr_script.proofs.laws.disjoint_cycles_are_their_product.Goals as goal

pub returns : goal.returns
returns c = same-images
