-- Rows in groups, as a forest: above each row stands a smaller row of its group, or itself at the least (Tarjan, Efficiency
-- of a good but not linear set union algorithm).
use Rattle.std.specs.Prelude.{ℕ, zero, suc, ◌≡◌, ◌+◌, ◌<◌, ◌≤◌, ◌==◌, List, length, slice_index, cond}

-- no row stands above a smaller one
abbrev pub AreParents : List ℕ → Type 0
AreParents parents = (i : ℕ) → i < length parents → slice_index parents i ≤ i

-- an image for each row is the same in each group
abbrev pub IsShared : List ℕ → (ℕ → List ℕ) → Type 0
IsShared parents image = (i : ℕ) → i < length parents → image (slice_index parents i) ≡ image i

-- how many of the first rows are not the least of their groups
abbrev pub joins_below : List ℕ → ℕ → ℕ
joins_below parents zero = 0
joins_below parents (suc n) = joins_below parents n + cond (slice_index parents n == n) 0 1

-- how many times two groups became one
unfoldable pub joins : List ℕ → ℕ
joins parents = joins_below parents (length parents)

-- the groups and their least rows stay
pub record IsRearranged (parents parents' : List ℕ) : Type 0 where
  pub size : length parents' ≡ length parents
  pub least : (i : ℕ) → i < length parents → slice_index parents i ≡ i → slice_index parents' i ≡ i
  pub shared : (image : ℕ → List ℕ) → IsShared parents image → IsShared parents' image
  pub joins : joins parents' ≡ joins parents
