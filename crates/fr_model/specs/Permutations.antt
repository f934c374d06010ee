-- Permutations of the letters, as the list of the images of 1, 2, .. They act from the right, as in GAP.
use Rattle.std.specs.Prelude.{ℕ, zero, suc, ◌≡◌, ◌==◌, if◌then◌else◌, List, [], ◌∷◌, length, map, slice_index_or}
use Rattle.std.specs.List.{IsDistinct}
use Rattle.std.proofs.Common.{eqb}
use Rattle.fr_model.specs.Words.{IsWord}

-- d images, each a letter, and no letter twice
pub record IsPermutation (d : ℕ) (p : List ℕ) : Type 0 where
  pub degree : length p ≡ d
  pub letters : IsWord d p
  pub distinct : IsDistinct eqb p

-- the image of x; a number that is no letter is its own image
abbrev pub image : List ℕ → ℕ → ℕ
image p zero = zero
image p (suc k) = slice_index_or p k (suc k)

-- the place of y in the list, where places are counted from k; y itself where it does not stand there
abbrev pub place_from : ℕ → List ℕ → ℕ → ℕ
place_from k [] y = y
place_from k (i ∷ is) y = if y == i then k else place_from (suc k) is y

-- the number whose image is y
abbrev pub preimage : List ℕ → ℕ → ℕ
preimage p y = place_from 1 p y

-- n numbers from k on
abbrev pub numbers_from : ℕ → ℕ → List ℕ
numbers_from k zero = []
numbers_from k (suc n) = k ∷ numbers_from (suc k) n

abbrev pub identity_permutation : ℕ → List ℕ
identity_permutation d = numbers_from 1 d

-- first p, then q
abbrev pub composite : List ℕ → List ℕ → List ℕ
composite p q = map (image q) p

abbrev pub inverse_permutation : List ℕ → List ℕ
inverse_permutation p = map (preimage p) (identity_permutation (length p))
