-- The smallest machine of a row: the reduced automaton of Grigorchuk, Nekrashevych and Sushchanskii (Automata, dynamical
-- systems, and groups). It is found by a walk over rows of which one is chosen of each class of like rows.
use Rattle.std.specs.Prelude.{ℕ, ◌≡◌, ◌<◌, List, length, slice_index}
use Rattle.fr_model.specs.Terms.{Term, IsAlike}
use Rattle.fr_model.specs.Automata.{State, state_at, next_state}
use Rattle.fr_model.specs.Classes.{IsSize}
use Rattle.fr_machine.specs.declared.row.Row.{Row}
use Rattle.fr_machine.specs.Rows.{row_term}

-- row 0 acts like t, and there are as many rows as t has sections up to acting alike
pub record IsSmallest (d : ℕ) (t : Term) (rows : List Row) : Type 0 where
  pub alike : IsAlike (row_term rows 0) t
  pub size : IsSize d t (length rows)

-- the row that was chosen of the class of a row
abbrev pub chosen_of : List ℕ → List ℕ → ℕ → ℕ
chosen_of of chosen s = slice_index chosen (slice_index of s)

-- one row of each class
pub record IsChoice (of chosen : List ℕ) : Type 0 where
  pub size : length chosen ≡ length of
  pub own : (s : ℕ) → s < length of → (slice_index of s < length chosen) × (chosen_of of chosen s < length of) × (slice_index of (chosen_of of chosen s) ≡ slice_index of s)

-- a letter leads to the chosen row of the class of the next row
abbrev pub chosen_step : List State → List ℕ → List ℕ → ℕ → ℕ → ℕ
chosen_step qs of chosen s x = chosen_of of chosen (next_state qs s x)

-- what a chosen row puts out
abbrev pub chosen_output : List State → ℕ → List ℕ
chosen_output qs s = (state_at qs s).perm
