-- How a ray is written: this project's own notation, the digits of the letters before the period, and in parentheses (40 and
-- 41) those of the period.
use Rattle.std.specs.Prelude.{ℕ, List, [], ◌∷◌, ◌++◌, map}
use Rattle.fr_alphabet.specs.Writing.{letter_digit}
use Rattle.fr_ray.specs.Rays.{RayView}

-- the text of a ray
abbrev pub ray_text : RayView → List ℕ
ray_text r = map letter_digit r.before ++ (40 ∷ map letter_digit r.period) ++ (41 ∷ [])
