-- The laws of the rank: it is the place of a permutation among the permutations of its letters.
use Rattle.std.specs.Prelude.{ℕ, ◌≡◌, ◌<◌, ◌↔◌, List}
use Rattle.fr_model.specs.Permutations.{IsPermutation}
use Rattle.fr_model.specs.Separation.{IsLexBefore}
use Rattle.fr_model.specs.Ranks.{rank, factorial, IsRank}

-- the rank counts the earlier permutations; the ranks of the permutations of d letters are the numbers below the
-- factorial of d, one each, in the order of the permutations
pub record RanksArePlaces : Type 0 where
  pub counts : (d : ℕ) (p : List ℕ) → IsPermutation d p → IsRank d p (rank p)
  pub below : (d : ℕ) (p : List ℕ) → IsPermutation d p → rank p < factorial d
  pub injective : (d : ℕ) (p q : List ℕ) → IsPermutation d p → IsPermutation d q → rank p ≡ rank q → p ≡ q
  pub onto : (d r : ℕ) → r < factorial d → (p : List ℕ) × IsPermutation d p × (rank p ≡ r)
  pub ordered : (d : ℕ) (p q : List ℕ) → IsPermutation d p → IsPermutation d q → (rank p < rank q) ↔ IsLexBefore p q
