-- Computed permutations and ranks, and lists that are no permutation.
use Rattle.std.specs.Prelude.{◌≡◌, [], ◌∷◌}
use Rattle.fr_model.specs.Permutations.{IsPermutation, identity_permutation, composite, inverse_permutation}
use Rattle.fr_model.specs.Ranks.{rank, IsRank}

-- products apply the first permutation first
pub record PermutationsCompose : Type 0 where
  pub cycle_then_swap : composite (2 ∷ 3 ∷ 1 ∷ []) (2 ∷ 1 ∷ 3 ∷ []) ≡ 1 ∷ 3 ∷ 2 ∷ []
  pub swap_then_cycle : composite (2 ∷ 1 ∷ 3 ∷ []) (2 ∷ 3 ∷ 1 ∷ []) ≡ 3 ∷ 2 ∷ 1 ∷ []
  pub inverse : inverse_permutation (2 ∷ 3 ∷ 4 ∷ 1 ∷ []) ≡ 4 ∷ 1 ∷ 2 ∷ 3 ∷ []
  pub identity : identity_permutation 4 ≡ 1 ∷ 2 ∷ 3 ∷ 4 ∷ []

-- a list with a repeated image, an image that is no letter, or a wrong length
pub record PermutationsRefused : Type 0 where
  pub twice : ¬ IsPermutation 2 (2 ∷ 2 ∷ [])
  pub outside : ¬ IsPermutation 2 (1 ∷ 3 ∷ [])
  pub zero : ¬ IsPermutation 2 (1 ∷ 0 ∷ [])
  pub short : ¬ IsPermutation 2 (1 ∷ [])
  pub long : ¬ IsPermutation 2 (1 ∷ 2 ∷ 3 ∷ [])

-- all permutations of up to four letters in order, and two of eight
pub record RanksOfPermutations : Type 0 where
  pub of_1 : rank (1 ∷ []) ≡ 0
  pub of_12 : rank (1 ∷ 2 ∷ []) ≡ 0
  pub of_21 : rank (2 ∷ 1 ∷ []) ≡ 1
  pub of_123 : rank (1 ∷ 2 ∷ 3 ∷ []) ≡ 0
  pub of_132 : rank (1 ∷ 3 ∷ 2 ∷ []) ≡ 1
  pub of_213 : rank (2 ∷ 1 ∷ 3 ∷ []) ≡ 2
  pub of_231 : rank (2 ∷ 3 ∷ 1 ∷ []) ≡ 3
  pub of_312 : rank (3 ∷ 1 ∷ 2 ∷ []) ≡ 4
  pub of_321 : rank (3 ∷ 2 ∷ 1 ∷ []) ≡ 5
  pub of_1234 : rank (1 ∷ 2 ∷ 3 ∷ 4 ∷ []) ≡ 0
  pub of_1243 : rank (1 ∷ 2 ∷ 4 ∷ 3 ∷ []) ≡ 1
  pub of_1324 : rank (1 ∷ 3 ∷ 2 ∷ 4 ∷ []) ≡ 2
  pub of_1342 : rank (1 ∷ 3 ∷ 4 ∷ 2 ∷ []) ≡ 3
  pub of_1423 : rank (1 ∷ 4 ∷ 2 ∷ 3 ∷ []) ≡ 4
  pub of_1432 : rank (1 ∷ 4 ∷ 3 ∷ 2 ∷ []) ≡ 5
  pub of_2134 : rank (2 ∷ 1 ∷ 3 ∷ 4 ∷ []) ≡ 6
  pub of_2143 : rank (2 ∷ 1 ∷ 4 ∷ 3 ∷ []) ≡ 7
  pub of_2314 : rank (2 ∷ 3 ∷ 1 ∷ 4 ∷ []) ≡ 8
  pub of_2341 : rank (2 ∷ 3 ∷ 4 ∷ 1 ∷ []) ≡ 9
  pub of_2413 : rank (2 ∷ 4 ∷ 1 ∷ 3 ∷ []) ≡ 10
  pub of_2431 : rank (2 ∷ 4 ∷ 3 ∷ 1 ∷ []) ≡ 11
  pub of_3124 : rank (3 ∷ 1 ∷ 2 ∷ 4 ∷ []) ≡ 12
  pub of_3142 : rank (3 ∷ 1 ∷ 4 ∷ 2 ∷ []) ≡ 13
  pub of_3214 : rank (3 ∷ 2 ∷ 1 ∷ 4 ∷ []) ≡ 14
  pub of_3241 : rank (3 ∷ 2 ∷ 4 ∷ 1 ∷ []) ≡ 15
  pub of_3412 : rank (3 ∷ 4 ∷ 1 ∷ 2 ∷ []) ≡ 16
  pub of_3421 : rank (3 ∷ 4 ∷ 2 ∷ 1 ∷ []) ≡ 17
  pub of_4123 : rank (4 ∷ 1 ∷ 2 ∷ 3 ∷ []) ≡ 18
  pub of_4132 : rank (4 ∷ 1 ∷ 3 ∷ 2 ∷ []) ≡ 19
  pub of_4213 : rank (4 ∷ 2 ∷ 1 ∷ 3 ∷ []) ≡ 20
  pub of_4231 : rank (4 ∷ 2 ∷ 3 ∷ 1 ∷ []) ≡ 21
  pub of_4312 : rank (4 ∷ 3 ∷ 1 ∷ 2 ∷ []) ≡ 22
  pub of_4321 : rank (4 ∷ 3 ∷ 2 ∷ 1 ∷ []) ≡ 23
  pub of_87654321 : rank (8 ∷ 7 ∷ 6 ∷ 5 ∷ 4 ∷ 3 ∷ 2 ∷ 1 ∷ []) ≡ 40319
  pub of_31287645 : rank (3 ∷ 1 ∷ 2 ∷ 8 ∷ 7 ∷ 6 ∷ 4 ∷ 5 ∷ []) ≡ 10198

-- how many permutations come before the swap of two letters
pub record SwapHasRankOne : Type 0 where
  pub one : IsRank 2 (2 ∷ 1 ∷ []) 1
  pub not_zero : ¬ IsRank 2 (2 ∷ 1 ∷ []) 0
  pub not_two : ¬ IsRank 2 (2 ∷ 1 ∷ []) 2
