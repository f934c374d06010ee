-- Rows of machines as the states of an automaton (Nekrashevych, Self-Similar Groups, 1.3).
use Rattle.std.specs.Prelude.{ℕ, ◌≡◌, ◌<◌, ◌≤◌, List, [], length, map, take, drop, slice_index_or}
use Rattle.std.specs.List.{All}
use Rattle.fr_model.specs.Permutations.{IsPermutation}
use Rattle.fr_model.specs.Automata.{State, state_term}
use Rattle.fr_model.specs.Terms.{Term}
use Rattle.fr_machine.specs.declared.row.Row.{Row}

-- a row as a state: the entries past the letters are no next states
abbrev pub state_of : Row → State
state_of r = record { perm = r.perm; next = take (length r.perm) r.next }

-- the rows as the states of an automaton
abbrev pub states_of : List Row → List State
states_of rows = map state_of rows

-- a row as a term
abbrev pub row_term : List Row → ℕ → Term
row_term rows s = state_term (states_of rows) s

-- a row over d letters, of so many rows
pub record IsRow (d rows : ℕ) (r : Row) : Type 0 where
  pub permutes : IsPermutation d r.perm
  pub width : length r.next ≡ 8
  pub below : All (λ n. n < rows) r.next
  pub zeros : All (λ n. n ≡ 0) (drop d r.next)

-- the rules of a machine
pub record IsMachine (d : ℕ) (rows : List Row) : Type 0 where
  pub few : 2 ≤ d
  pub letters : d ≤ 8
  pub least : 1 ≤ length rows
  pub most : length rows ≤ 65536
  pub valid : All (IsRow d (length rows)) rows

-- the row at a place
abbrev pub row_at : List Row → ℕ → Row
row_at rows s = slice_index_or rows s (record { perm = []; next = [] })

-- the first rows are these
pub record IsLonger (old rows : List Row) : Type 0 where
  pub least : length old ≤ length rows
  pub same : (s : ℕ) → s < length old → row_at rows s ≡ row_at old s
