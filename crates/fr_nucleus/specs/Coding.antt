-- Codes of the rows of a machine.
use Rattle.std.specs.Prelude.{ℕ, ◌≡◌, ◌<◌, ◌+◌, ◌*◌, List, length, slice_index_or}
use Rattle.fr_model.specs.Canonical.{IsCode}
use Rattle.fr_machine.specs.declared.row.Row.{Row}
use Rattle.fr_machine.specs.Rows.{row_term}
use Rattle.fr_nucleus.specs.declared.coding.Listed.{Listed}

-- the code of a row, with the number of its states
pub record IsListed (d : ℕ) (rows : List Row) (s : ℕ) (item : Listed) : Type 0 where
  pub of_row : item.row ≡ s
  pub code : IsCode d (row_term rows s) item.code.items
  pub length_code : length item.code.items ≡ item.size * (d + 1)

-- the codes of the first rows
pub record AreListed (d : ℕ) (rows : List Row) (items : List Listed) (s : ℕ) : Type 0 where
  pub count : length items ≡ s
  pub each : (i : ℕ) (z : Listed) → i < s → IsListed d rows i (slice_index_or items i z)
