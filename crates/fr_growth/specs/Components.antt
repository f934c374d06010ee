-- The strongly connected components of the rows of a machine, numbered so that no letter leads to a greater number
-- (Tarjan, Depth-first search and linear graph algorithms).
use Rattle.std.specs.Prelude.{ℕ, ◌≡◌, ◌<◌, ◌≤◌, List, length, slice_index}
use Rattle.fr_model.specs.Words.{IsLetter}
use Rattle.fr_model.specs.Automata.{next_state, IsReached}
use Rattle.fr_machine.specs.declared.row.Row.{Row}
use Rattle.fr_machine.specs.Rows.{states_of}

-- the number of the component of each row
pub record AreComponents (d : ℕ) (rows : List Row) (numbers : List ℕ) : Type 0 where
  pub count : length numbers ≡ length rows
  pub small : (s : ℕ) → s < length rows → slice_index numbers s < length rows
  pub falls : (s x : ℕ) → s < length rows → IsLetter d x → slice_index numbers (next_state (states_of rows) s x) ≤ slice_index numbers s
  pub joined : (s t : ℕ) → s < length rows → t < length rows → slice_index numbers s ≡ slice_index numbers t → IsReached d (states_of rows) s t

-- all rows, each once, component after component
pub record AreInOrder (n : ℕ) (numbers order : List ℕ) : Type 0 where
  pub count : length order ≡ n
  pub below : (i : ℕ) → i < length order → slice_index order i < n
  pub whole : (s : ℕ) → s < n → (i : ℕ) × (i < length order) × (slice_index order i ≡ s)
  pub rising : (i j : ℕ) → i < j → j < length order → slice_index numbers (slice_index order i) ≤ slice_index numbers (slice_index order j)
