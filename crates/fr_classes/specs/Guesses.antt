-- Classes that are guessed. This project's own.
use Rattle.std.specs.Prelude.{ℕ, ◌≡◌, ◌<◌, List, length, slice_index}
use Rattle.std.specs.List.{All, Contains}
use Rattle.fr_model.specs.Terms.{IsAlike}
use Rattle.fr_machine.specs.declared.row.Row.{Row}
use Rattle.fr_machine.specs.Rows.{row_term}
use Rattle.fr_classes.specs.Numberings.{IsNumberedFrom}
use Rattle.fr_classes.specs.Refinement.{signature_at}

-- so many classes, in the order of their first rows; rows that act alike are of one class
pub record IsGuess (rows : List Row) (of : List ℕ) (count : ℕ) : Type 0 where
  pub size : length of ≡ length rows
  pub first : IsNumberedFrom 0 of
  pub below : All (λ c. c < count) of
  pub used : (c : ℕ) → c < count → Contains of c
  pub alike : (s t : ℕ) → s < length rows → t < length rows → IsAlike (row_term rows s) (row_term rows t) → slice_index of s ≡ slice_index of t

-- rows of one class have one signature
abbrev pub IsStable : List Row → List ℕ → Type 0
IsStable rows of = (s t : ℕ) → s < length rows → t < length rows → slice_index of s ≡ slice_index of t → signature_at rows of s ≡ signature_at rows of t
