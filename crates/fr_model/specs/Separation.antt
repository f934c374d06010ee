-- Shortlex order (Sims, Computation with Finitely Presented Groups), and the least word that tells two terms apart, which
-- is this project's own.
use Rattle.std.specs.Prelude.{ℕ, ◌≡◌, ◌≢◌, ◌<◌, ◌⊎◌, List, [], ◌∷◌, length, Option, MatchOption}
use Rattle.fr_model.specs.Words.{IsWord}
use Rattle.fr_model.specs.Terms.{Term, act, IsAlike}

-- of two words of one length, the first differs first by a smaller letter
abbrev pub IsLexBefore : List ℕ → List ℕ → Type 0
IsLexBefore [] w = ⊥
IsLexBefore (x ∷ v) [] = ⊥
IsLexBefore (x ∷ v) (y ∷ w) = (x < y) ⊎ ((x ≡ y) × IsLexBefore v w)

-- by length, then letter by letter
abbrev pub IsShortlexBefore : List ℕ → List ℕ → Type 0
IsShortlexBefore v w = (length v < length w) ⊎ ((length v ≡ length w) × IsLexBefore v w)

-- the shortlex least word at which the images differ
pub record IsSeparatingWord (d : ℕ) (t u : Term) (w : List ℕ) : Type 0 where
  pub valid : IsWord d w
  pub differs : act t w ≢ act u w
  pub least : (v : List ℕ) → IsWord d v → IsShortlexBefore v w → act t v ≡ act u v

-- the shortlex least word at which the images differ, or none where the terms act alike
abbrev pub IsSeparation : ℕ → Term → Term → Option (List ℕ) → Type 0
IsSeparation d t u found = MatchOption found (IsAlike t u) (λ w. IsSeparatingWord d t u w)
