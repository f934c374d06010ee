-- Rows that share a component with a row that stays in it at two letters, and marks on rows. This project's own.
use Rattle.std.specs.Prelude.{ℕ, ◌≡◌, ◌<◌, ◌==◌, ◌↔◌, Bool, true, List, length, slice_index}
use Rattle.fr_growth.specs.Layers.{is_marked}

-- a row that shares its component with a row that stays in it at two letters
abbrev pub Doubles : ℕ → List ℕ → List ℕ → ℕ → Type 0
Doubles n numbers returns s = (t : ℕ) × (t < n) × (1 < slice_index returns t) × (slice_index numbers t ≡ slice_index numbers s)

-- the marks of these rows
pub record AreDoubling (n : ℕ) (numbers returns : List ℕ) (marks : List Bool) : Type 0 where
  pub count : length marks ≡ n
  pub right : (s : ℕ) → s < n → (is_marked marks s ≡ true) ↔ Doubles n numbers returns s

-- the marks of the components, for the rows below k
pub record AreDoublingNumbers (n k : ℕ) (numbers returns : List ℕ) (marks : List Bool) : Type 0 where
  pub count : length marks ≡ n
  pub right : (c : ℕ) → c < n → (is_marked marks c ≡ true) ↔ ((t : ℕ) × (t < k) × (1 < slice_index returns t) × (slice_index numbers t ≡ c))

-- the mark of one row
pub record IsOnly (n t : ℕ) (marks : List Bool) : Type 0 where
  pub count : length marks ≡ n
  pub right : (s : ℕ) → s < n → is_marked marks s ≡ (s == t)
