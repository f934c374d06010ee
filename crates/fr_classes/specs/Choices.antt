-- One row of each class.
use Rattle.std.specs.Prelude.{ℕ, ◌≡◌, ◌<◌, List, length, slice_index}

-- the row that was chosen of the class of a row
abbrev pub chosen_of : List ℕ → List ℕ → ℕ → ℕ
chosen_of of chosen s = slice_index chosen (slice_index of s)

-- one row of each class
pub record IsChoice (of chosen : List ℕ) : Type 0 where
  pub size : length chosen ≡ length of
  pub own : (s : ℕ) → s < length of → (slice_index of s < length chosen) × (chosen_of of chosen s < length of) × (slice_index of (chosen_of of chosen s) ≡ slice_index of s)
