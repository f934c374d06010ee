-- Letters that lead from row to row, as a list in which each names the one before it that leads to the same row. This
-- project's own.
use Rattle.std.specs.Prelude.{ℕ, ◌≡◌, ◌≢◌, ◌+◌, ◌-◌, ◌<◌, ◌≤◌, ◌⊎◌, List, [], ◌∷◌, ◌++◌, length, slice_index, slice_index_or, slice_set}
use Rattle.fr_model.specs.Words.{IsLetter}
use Rattle.fr_model.specs.Automata.{next_state}
use Rattle.fr_machine.specs.declared.row.Row.{Row}
use Rattle.fr_machine.specs.Rows.{states_of}
use Rattle.fr_growth.specs.declared.edges.Edge.{Edge}

-- the edge at a place
abbrev pub edge_at : List Edge → ℕ → Edge
edge_at edges e = slice_index_or edges e (record { row = 0; letter = 0; earlier = 0 })

-- the row to which an edge leads
abbrev pub target_at : List Row → List Edge → ℕ → ℕ
target_at rows edges e = next_state (states_of rows) (edge_at edges e).row (edge_at edges e).letter

-- the number, counted from 1, of the last of the first n edges that leads to t; 0 where none does
pub record IsLatest (rows : List Row) (edges : List Edge) (t number n : ℕ) : Type 0 where
  pub below : number ≤ n
  pub hits : number ≢ 0 → target_at rows edges (number - 1) ≡ t
  pub last : (e : ℕ) → number ≤ e → e < n → target_at rows edges e ≢ t

-- the edges from the rows of a list, later ones from rows that are not farther
pub record AreEdges (d : ℕ) (rows : List Row) (order values : List ℕ) (edges : List Edge) (latest : List ℕ) : Type 0 where
  pub size : length latest ≡ length rows
  pub inside : (e : ℕ) → e < length edges → ((j : ℕ) × (j < length order) × (slice_index order j ≡ (edge_at edges e).row)) × IsLetter d (edge_at edges e).letter
  pub whole : (j y : ℕ) → j < length order → IsLetter d y → (e : ℕ) × (e < length edges) × ((edge_at edges e).row ≡ slice_index order j) × ((edge_at edges e).letter ≡ y)
  pub falling : (e f : ℕ) → e ≤ f → f < length edges → slice_index values (edge_at edges f).row ≤ slice_index values (edge_at edges e).row
  pub heads : (t : ℕ) → t < length rows → IsLatest rows edges t (slice_index latest t) (length edges)
  pub earlier : (e : ℕ) → e < length edges → IsLatest rows edges (target_at rows edges e) (edge_at edges e).earlier e

-- the same, for the places behind i, and for i at the letters up to x
pub record AreEdgesFrom (d : ℕ) (rows : List Row) (order values : List ℕ) (edges : List Edge) (latest : List ℕ) (i x : ℕ) : Type 0 where
  pub size : length latest ≡ length rows
  pub inside : (e : ℕ) → e < length edges → ((j : ℕ) × (i ≤ j) × (j < length order) × (slice_index order j ≡ (edge_at edges e).row)) × IsLetter d (edge_at edges e).letter
  pub whole : (j y : ℕ) → j < length order → IsLetter d y → (i < j) ⊎ ((i ≡ j) × (y ≤ x)) → (e : ℕ) × (e < length edges) × ((edge_at edges e).row ≡ slice_index order j) × ((edge_at edges e).letter ≡ y)
  pub falling : (e f : ℕ) → e ≤ f → f < length edges → slice_index values (edge_at edges f).row ≤ slice_index values (edge_at edges e).row
  pub heads : (t : ℕ) → t < length rows → IsLatest rows edges t (slice_index latest t) (length edges)
  pub earlier : (e : ℕ) → e < length edges → IsLatest rows edges (target_at rows edges e) (edge_at edges e).earlier e

-- an edge to t was added
abbrev pub IsAdded : List Edge → List ℕ → ℕ → ℕ → ℕ → List Edge → List ℕ → Type 0
IsAdded edges latest s x t edges' latest' = (edges' ≡ edges ++ record { row = s; letter = x; earlier = slice_index latest t } ∷ []) × (latest' ≡ slice_set latest t (length edges + 1))
