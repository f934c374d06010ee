-- Walks inside a component, and the chain that is built along them. This project's own.
use Rattle.std.specs.Prelude.{ℕ, ◌≡◌, ◌≢◌, ◌<◌, ◌≤◌, List, [], ◌++◌, length, slice_index}
use Rattle.fr_model.specs.Words.{IsLetter, IsWord}
use Rattle.fr_model.specs.Automata.{state_after}
use Rattle.fr_machine.specs.declared.row.Row.{Row}
use Rattle.fr_machine.specs.Rows.{states_of}
use Rattle.fr_growth.specs.Levels.{next_component}

-- a word that leads from s to t
pub record IsWay (d : ℕ) (rows : List Row) (s t : ℕ) (w : List ℕ) : Type 0 where
  pub valid : IsWord d w
  pub leads : state_after (states_of rows) s w ≡ t
  pub most : length w < length rows

-- such a word was appended, which is empty where the rows are one
pub record IsAppended (d : ℕ) (rows : List Row) (s t : ℕ) (old new : List ℕ) : Type 0 where
  pub along : List ℕ
  pub appended : new ≡ old ++ along
  pub way : IsWay d rows s t along
  pub none : s ≡ t → along ≡ []

-- a word that leads from t back to t
pub record IsRoundTrip (d : ℕ) (rows : List Row) (t : ℕ) (w : List ℕ) : Type 0 where
  pub valid : IsWord d w
  pub leads : state_after (states_of rows) t w ≡ t
  pub some : w ≢ []
  pub most : length w ≤ length rows

-- a letter at which the row stays in its component
pub record IsStayingLetter (d : ℕ) (rows : List Row) (numbers : List ℕ) (s x : ℕ) : Type 0 where
  pub letter : IsLetter d x
  pub inside : next_component rows numbers s x ≡ slice_index numbers s

-- a letter at which the row leaves its component for one of this level
pub record IsLeavingLetter (d : ℕ) (rows : List Row) (numbers levels : List ℕ) (s level x : ℕ) : Type 0 where
  pub letter : IsLetter d x
  pub outside : next_component rows numbers s x ≢ slice_index numbers s
  pub level_is : slice_index levels (next_component rows numbers s x) ≡ level
