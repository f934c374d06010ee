-- The law of canonical forms of rays, which a function of this crate proves.
use Rattle.std.specs.Prelude.{ℕ, ◌≢◌, List, []}
use Rattle.fr_model.specs.Words.{IsWord}
use Rattle.fr_model.specs.Rays.{IsSameRay, IsCanonicalRay}

-- each ray over d letters has a canonical form
abbrev pub RaysHaveForms : Type 0
RaysHaveForms = (d : ℕ) (u v : List ℕ) → IsWord d u → IsWord d v → v ≢ [] → (before : List ℕ) × (period : List ℕ) × IsCanonicalRay d before period × IsSameRay u v before period
