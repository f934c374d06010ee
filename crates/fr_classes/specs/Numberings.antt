-- Numbers that tell keys apart, given in the order in which the keys come first. This project's own.
use Rattle.std.specs.List.{All, Contains}
use Rattle.std.specs.Prelude.{ℕ, suc, ◌≡◌, ◌<◌, ◌≤◌, ◌↔◌, max, List, [], ◌∷◌, length, slice_index, slice_index_or}

-- each number is one that came before or the next one, where c numbers came before the list
abbrev pub IsNumberedFrom : ℕ → List ℕ → Type 0
IsNumberedFrom c [] = Unit {0}
IsNumberedFrom c (x ∷ xs) = (x ≤ c) × IsNumberedFrom (max c (suc x)) xs

-- how many numbers there are, where c numbers came before the list
abbrev pub numbers_after : ℕ → List ℕ → ℕ
numbers_after c [] = c
numbers_after c (x ∷ xs) = numbers_after (max c (suc x)) xs

-- keys have one number exactly where they are equal
pub record IsNumbering {K : Type 0} (keys : List K) (numbers : List ℕ) : Type 0 where
  pub count : length numbers ≡ length keys
  pub first : IsNumberedFrom 0 numbers
  pub same : (i j : ℕ) (d : K) → i < length keys → j < length keys → (slice_index numbers i ≡ slice_index numbers j) ↔ (slice_index_or keys i d ≡ slice_index_or keys j d)

-- keys have one number exactly where they are equal, and the numbers are those below the count
pub record IsNumberingOfKeys (keys numbers : List ℕ) (count : ℕ) : Type 0 where
  pub numbering : IsNumbering keys numbers
  pub below : All (λ n. n < count) numbers
  pub used : (n : ℕ) → n < count → Contains numbers n
