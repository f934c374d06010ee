-- The rank of a permutation: its place, from 0, among the permutations of its letters by their images in order. It is
-- computed by the code of Lehmer (Teaching combinatorial tricks to a computer).
use Rattle.std.specs.Prelude.{ℕ, zero, suc, ◌≡◌, ◌+◌, ◌*◌, if◌then◌else◌, nat_lt, List, [], ◌∷◌, length}
use Rattle.fr_model.specs.Permutations.{IsPermutation}
use Rattle.fr_model.specs.Separation.{IsLexBefore}
use Rattle.fr_model.specs.Classes.{IsClassCount}

-- how many are smaller than x
abbrev pub smaller_in : ℕ → List ℕ → ℕ
smaller_in x [] = zero
smaller_in x (y ∷ ys) = if nat_lt y x then suc (smaller_in x ys) else smaller_in x ys

-- the product of the numbers from 1 to n
abbrev pub factorial : ℕ → ℕ
factorial zero = 1
factorial (suc n) = suc n * factorial n

-- how many permutations come before these images, by the code of Lehmer
abbrev pub rank : List ℕ → ℕ
rank [] = zero
rank (x ∷ xs) = smaller_in x xs * factorial (length xs) + rank xs

-- a permutation of d letters whose images come before those of p, letter by letter
pub record IsEarlier (d : ℕ) (p q : List ℕ) : Type 0 where
  pub permutes : IsPermutation d q
  pub before : IsLexBefore q p

-- so many permutations come before p
abbrev pub IsRank : ℕ → List ℕ → ℕ → Type 0
IsRank d p r = IsClassCount (IsEarlier d p) (λ q q'. q ≡ q') r
