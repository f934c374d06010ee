-- Images and canonical forms of rays.
use Rattle.std.specs.Prelude.{[], ◌∷◌}
use Rattle.fr_model.specs.Terms.{Name}
use Rattle.fr_model.specs.Rays.{IsSameRay, IsRayImage, IsCanonicalRay}
use Rattle.fr_model_examples.specs.Groups.{adding_machine}

-- the adding machine sends the ray of twos to the ray of ones
pub record AddingMachineMovesRays : Type 0 where
  pub image : IsRayImage (Name adding_machine 0) [] (2 ∷ []) [] (1 ∷ [])
  pub not_itself : ¬ IsRayImage (Name adding_machine 0) [] (2 ∷ []) [] (2 ∷ [])
  pub not_without_period : ¬ IsRayImage (Name adding_machine 0) [] (2 ∷ []) (1 ∷ []) []

-- one ray is written in many ways
pub record RaysAreSame : Type 0 where
  pub ones : IsSameRay [] (1 ∷ 1 ∷ []) [] (1 ∷ [])
  pub not_twos : ¬ IsSameRay [] (1 ∷ []) [] (2 ∷ [])
  pub not_later : ¬ IsSameRay [] (1 ∷ []) (1 ∷ []) (2 ∷ [])

-- the ray of ones has the period 1 from its beginning
pub record RaysAreCanonical : Type 0 where
  pub ones : IsCanonicalRay 2 [] (1 ∷ [])
  pub not_double : ¬ IsCanonicalRay 2 [] (1 ∷ 1 ∷ [])
  pub not_late : ¬ IsCanonicalRay 2 (1 ∷ []) (1 ∷ [])
