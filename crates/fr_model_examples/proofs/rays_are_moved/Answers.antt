use Rattle.fr_model_examples.proofs.RayFacts.{moved_rays, canonical_rays, same_rays}
use Rattle.fr_model_examples.proofs.rays_are_moved.Goals as goal

pub returns-clause-images : goal.returns-clause-images
returns-clause-images c = moved_rays

pub returns-clause-forms : goal.returns-clause-forms
returns-clause-forms c = canonical_rays

pub returns-clause-same : goal.returns-clause-same
returns-clause-same c = same_rays
