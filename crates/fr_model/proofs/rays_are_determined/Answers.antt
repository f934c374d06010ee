use Rattle.std.proofs.Common.{sym, ◌∙◌, ap}
use Rattle.fr_model.specs.Terms.{act}
use Rattle.fr_model.specs.Rays.{ray_prefix}
use Rattle.fr_model.proofs.LimitLaws.{canonical_ray_once}
use Rattle.fr_model.proofs.rays_are_determined.Goals as goal

pub returns : goal.returns
returns c = record {
  one_form = canonical_ray_once;
  one_image = λ t u v a b a' b' x y n. x n ∙ sym (y n);
  same_rays = λ t u v u' v' a b s x n. x n ∙ ap (act t) (s n);
  alike_images = λ t t' u v a b h x n. x n ∙ h.images (ray_prefix u v n);
}
