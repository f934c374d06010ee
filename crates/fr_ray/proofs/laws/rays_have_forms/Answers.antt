use Rattle.fr_ray.proofs.FormLaws.{form_exists}
use Rattle.fr_ray.proofs.laws.rays_have_forms.Goals as goal

pub returns : goal.returns
returns c = form_exists
