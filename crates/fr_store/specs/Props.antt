-- Facts of which there is at most one proof.
use Rattle.std.specs.Prelude.{ℕ, List, [], ◌∷◌}
use Rattle.std.proofs.Props.{props}
use Rattle.fr_model.specs.Words.{IsWord}

-- a list is a word in one way
pub IsWord-IsProp : (d : ℕ) (w : List ℕ) → IsProp (IsWord d w)
IsWord-IsProp d [] = hlevel props
IsWord-IsProp d (x ∷ w) = hlevel (props, IsWord-IsProp d w)
