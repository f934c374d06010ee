-- Classes of rows that act alike. Such rows are called equivalent states of an automaton.
use Rattle.std.specs.Prelude.{ℕ, ◌≡◌, ◌<◌, ◌↔◌, List, length, slice_index}
use Rattle.fr_model.specs.Terms.{IsAlike}
use Rattle.fr_model.specs.Classes.{HasMoreThan}
use Rattle.fr_machine.specs.declared.row.Row.{Row}
use Rattle.fr_machine.specs.Rows.{row_term}
use Rattle.fr_classes.specs.Numberings.{IsNumberedFrom}
pub use Rattle.fr_machine.specs.Rows.{row_at}

-- one class for each row: rows have one class exactly where they act alike, and classes are numbered by their first rows
pub record AreClasses (rows : List Row) (of : List ℕ) : Type 0 where
  pub count : length of ≡ length rows
  pub first : IsNumberedFrom 0 of
  pub alike : (s t : ℕ) → s < length rows → t < length rows → (slice_index of s ≡ slice_index of t) ↔ IsAlike (row_term rows s) (row_term rows t)

-- rows act alike
abbrev pub SameRow : List Row → ℕ → ℕ → Type 0
SameRow rows s t = IsAlike (row_term rows s) (row_term rows t)

-- there are more rows than the limit, no two of which act alike
abbrev pub HasMoreClasses : List Row → ℕ → Type 0
HasMoreClasses rows limit = HasMoreThan (λ s. s < length rows) (SameRow rows) limit
