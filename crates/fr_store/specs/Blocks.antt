-- Rows in blocks, one block behind the other, and the codes of rows. A block is a machine of its own. This project's own.
use Rattle.std.specs.Prelude.{ℕ, ◌≡◌, ◌≢◌, ◌+◌, ◌-◌, ◌<◌, ◌≤◌, List, length, take, drop, slice_index, slice_index_or}
use Rattle.fr_machine.specs.declared.row.Row.{Row}
use Rattle.fr_model.specs.Terms.{Term}
use Rattle.fr_model.specs.Automata.{next_state}
use Rattle.fr_model.specs.Classes.{IsSize}
use Rattle.fr_machine.specs.Rows.{IsMachine, row_term, states_of}
use Rattle.fr_machine.specs.Minimal.{AreUnlike}
use Rattle.fr_store.specs.declared.blocks.Place.{Place}
use Rattle.fr_canon.specs.Walked.{row_code}

-- the place of a row
abbrev pub place_at : List Place → ℕ → Place
place_at places r = slice_index_or places r (record { start = 0; size = 0 })

-- the rows of a place
abbrev pub block : List Row → Place → List Row
block rows p = take p.size (drop p.start rows)

-- the code of a row
unfoldable pub code_at : ℕ → List Row → List Place → ℕ → List ℕ
code_at d rows places r = row_code d (block rows (place_at places r)) (r - (place_at places r).start)

-- the element of a row
abbrev pub element_at : List Row → List Place → ℕ → Term
element_at rows places r = row_term (block rows (place_at places r)) (r - (place_at places r).start)

-- the row that a row leads to at a letter
abbrev pub next_at : List Row → List Place → ℕ → ℕ → ℕ
next_at rows places r x = (place_at places r).start + next_state (states_of (block rows (place_at places r))) (r - (place_at places r).start) x

-- row r lies in the block of its place, which is a machine of at most 1,024 unlike rows that all have this place
pub record IsPlaced (d : ℕ) (rows : List Row) (places : List Place) (r : ℕ) (p : Place) : Type 0 where
  pub starts : p.start ≤ r
  pub inside : r < p.start + p.size
  pub within : p.start + p.size ≤ length rows
  pub small : p.size ≤ 1024
  pub machine : IsMachine d (block rows p)
  pub unlike : AreUnlike (block rows p)
  pub shared : (i : ℕ) → i < p.size → place_at places (p.start + i) ≡ p

-- each row lies in a block
pub record AreBlocks (d : ℕ) (rows : List Row) (places : List Place) : Type 0 where
  pub as_many : length places ≡ length rows
  pub placed : (r : ℕ) → r < length rows → IsPlaced d rows places r (place_at places r)

-- each row has a number, which is 0 or the size of its element
pub record AreSizes (d : ℕ) (rows : List Row) (places : List Place) (sizes : List ℕ) : Type 0 where
  pub one_each : length sizes ≡ length rows
  pub most : (r : ℕ) → r < length rows → slice_index sizes r ≤ 1024
  pub sized : (r : ℕ) → r < length rows → slice_index sizes r ≢ 0 → ∥ IsSize d (element_at rows places r) (slice_index sizes r) ∥₁
