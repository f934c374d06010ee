-- What clauses see of a ray, which is an eventually periodic infinite word (Nekrashevych, Self-Similar Groups, chapter 1),
-- and images that have too many letters. The bound is this project's own.
use Rattle.std.specs.Prelude.{ℕ, ◌+◌, ◌<◌, ◌≤◌, List, length}
use Rattle.fr_model.specs.Terms.{Term}
use Rattle.fr_model.specs.Rays.{IsCanonicalRay, IsRayImage}

-- the letters before the period, and those of the period
pub record RayView : Type 0 where
  pub before : List ℕ
  pub period : List ℕ

-- a canonical form over the largest alphabet, with at most 4096 letters
pub record IsBoundedRay (r : RayView) : Type 0 where
  pub canonical : IsCanonicalRay 8 r.before r.period
  pub most : length r.before + length r.period ≤ 4096

-- the canonical form of the image of a ray, where it has more than 4096 letters
pub record IsLongImage (d : ℕ) (t : Term) (r : RayView) : Type 0 where
  pub before : List ℕ
  pub period : List ℕ
  pub canonical : IsCanonicalRay d before period
  pub image : IsRayImage t r.before r.period before period
  pub long : 4096 < length before + length period
