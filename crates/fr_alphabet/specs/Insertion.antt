-- A permutation with one letter more: its images make room for a new first image.
use Rattle.std.specs.Prelude.{ℕ, ◌+◌, nat_le, if◌then◌else◌, List, ◌∷◌, map}

-- y, or one more where y is x or above
abbrev pub raised : ℕ → ℕ → ℕ
raised x y = if nat_le x y then y + 1 else y

-- the images with x before them
abbrev pub in_front : ℕ → List ℕ → List ℕ
in_front x p = x ∷ map (raised x) p
