-- Letters and words over an alphabet of d letters, which are the numbers 1 to d: the vertices of the regular rooted tree
-- (Nekrashevych, Self-Similar Groups, chapter 1).
use Rattle.std.specs.Prelude.{ℕ, ◌≤◌, List, [], ◌∷◌}

-- a letter of the alphabet of d letters
abbrev pub IsLetter : ℕ → ℕ → Type 0
IsLetter d x = (1 ≤ x) × (x ≤ d)

-- each member is a letter
abbrev pub IsWord : ℕ → List ℕ → Type 0
IsWord d [] = Unit {0}
IsWord d (x ∷ w) = IsLetter d x × IsWord d w
