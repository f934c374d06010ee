-- Distances from a row: the least lengths of the words that lead from it to others (breadth-first search).
use Rattle.std.specs.Prelude.{ℕ, ◌≡◌, ◌+◌, ◌<◌, ◌≤◌, ◌⊎◌, ◌==◌, ◌||◌, true, false, List, [], ◌∷◌, ◌++◌, length, slice_index, slice_set}
use Rattle.fr_model.specs.Words.{IsLetter, IsWord}
use Rattle.fr_model.specs.Automata.{next_state, state_after}
use Rattle.fr_machine.specs.declared.row.Row.{Row}
use Rattle.fr_machine.specs.Rows.{states_of}
use Rattle.fr_growth.specs.Bits.{has_bit, rank_of}

-- a word of this length leads from s to t
pub record IsFar (d : ℕ) (rows : List Row) (s t long : ℕ) : Type 0 where
  pub along : List ℕ
  pub valid : IsWord d along
  pub there : state_after (states_of rows) s along ≡ t
  pub exact : length along ≡ long

-- the distance of the row at a place
abbrev pub value_at : List ℕ → List ℕ → ℕ → ℕ
value_at order values j = slice_index values (slice_index order j)

-- the rows that words lead to from a row, in rising order of their distances
pub record AreDistances (d : ℕ) (rows : List Row) (from : ℕ) (order values : List ℕ) : Type 0 where
  pub size : length values ≡ length rows
  pub below : (j : ℕ) → j < length order → slice_index order j < length rows
  pub whole : (w : List ℕ) → IsWord d w → (j : ℕ) × (j < length order) × (slice_index order j ≡ state_after (states_of rows) from w)
  pub least : (w : List ℕ) → IsWord d w → slice_index values (state_after (states_of rows) from w) ≤ length w
  pub real : (j : ℕ) → j < length order → IsFar d rows from (slice_index order j) (value_at order values j)
  pub rising : (j k : ℕ) → j ≤ k → k < length order → value_at order values j ≤ value_at order values k
  pub step : (j x : ℕ) → j < length order → IsLetter d x → slice_index values (next_state (states_of rows) (slice_index order j) x) ≤ value_at order values j + 1

-- a search that has met the next rows of the rows before place i, and of the row there at the letters up to x
pub record IsSearch (d : ℕ) (rows : List Row) (from : ℕ) (order values seen : List ℕ) (i x : ℕ) : Type 0 where
  pub size : length values ≡ length rows
  pub first : (0 < length order) × (slice_index order 0 ≡ from)
  pub below : (j : ℕ) → j < length order → slice_index order j < length rows
  pub listed : (u : ℕ) → u < length rows → has_bit seen u ≡ true → (j : ℕ) × (j < length order) × (slice_index order j ≡ u)
  pub met : (j : ℕ) → j < length order → has_bit seen (slice_index order j) ≡ true
  pub real : (j : ℕ) → j < length order → IsFar d rows from (slice_index order j) (value_at order values j)
  pub start : slice_index values from ≡ 0
  pub depth : (j : ℕ) → j < length order → value_at order values j ≤ j
  pub rising : (j k : ℕ) → j ≤ k → k < length order → value_at order values j ≤ value_at order values k
  pub near : (j : ℕ) → j < length order → i < length order → value_at order values j ≤ value_at order values i + 1
  pub closed : (j y : ℕ) → j < length order → IsLetter d y → (j < i) ⊎ ((j ≡ i) × (y ≤ x))
      → (has_bit seen (next_state (states_of rows) (slice_index order j) y) ≡ true) × (slice_index values (next_state (states_of rows) (slice_index order j) y) ≤ value_at order values j + 1)
  pub few : length order ≤ rank_of seen (length rows)

-- a row was entered with its distance; or it was there, and all is as before
abbrev pub IsMet : List ℕ → List ℕ → List ℕ → ℕ → ℕ → List ℕ → List ℕ → List ℕ → Type 0
IsMet order values seen t distance order' values' seen' =
    ((has_bit seen t ≡ true) × (order' ≡ order) × (values' ≡ values) × (seen' ≡ seen))
    ⊎ ((has_bit seen t ≡ false) × (order' ≡ order ++ t ∷ []) × (values' ≡ slice_set values t distance) × ((u : ℕ) → u < 1024 → has_bit seen' u ≡ (has_bit seen u || u == t)))
