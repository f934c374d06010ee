-- Where the words of the shared table lie. Word 0 is the number of claimed rows. Then come the fields of the rows, the links, the hash cells, and the cache of
-- products. This project's own.
use Rattle.std.specs.Prelude.{◌≡◌, ℕ, ◌+◌, ◌*◌, ◌^◌, ◌%◌, ◌<◌, ◌≤◌, Bool, nat_lt, nat_le, ◌&&◌}
use Rattle.fr_layout.specs.declared.plan.Plan.{Plan}
use Rattle.fr_layout.specs.declared.plan.Block.{Block}

-- the sizes of a table: as many hash cells as the least power of two that is twice the capacity or more
pub record IsPlan (p : Plan) : Type 0 where
  pub few_letters : 2 ≤ p.letters
  pub most_letters : p.letters ≤ 8
  pub some_row : 1 ≤ p.capacity
  pub most_rows : p.capacity ≤ 1048576
  pub power : p.cells ≡ 2 ^ p.bits
  pub few_bits : p.bits ≤ 21
  pub room : 2 * p.capacity ≤ p.cells
  pub least : p.cells < 4 * p.capacity

-- as many words of the cache
abbrev pub cache_size : ℕ
cache_size = 65536

module _ (p : Plan) where
  -- as many words of a row: its permutation, and a next row for each letter
  abbrev pub width : ℕ
  width = p.letters + 1

  -- the field f of the row r: field 0 has the permutation, and field x the next row at the letter x
  abbrev pub field_at : ℕ → ℕ → ℕ
  field_at r f = 1 + (r * width + f)

  -- the link of the row r
  abbrev pub link_at : ℕ → ℕ
  link_at r = 1 + (p.capacity * width + r)

  -- the hash cell c
  abbrev pub cell_at : ℕ → ℕ
  cell_at c = 1 + (p.capacity * width + (p.capacity + c))

  -- as many words, the cache left out
  abbrev pub word_count : ℕ
  word_count = 1 + (p.capacity * width + (p.capacity + p.cells))

  -- the word j of the cache
  abbrev pub cache_at : ℕ → ℕ
  cache_at j = word_count + j

  -- the cell after j steps of a walk that begins at the cell h, and goes on to the first cell after the last one
  abbrev pub on_walk : ℕ → ℕ → ℕ
  on_walk h j = cell_at ((h + j) % p.cells)

-- the row r is one of the block
abbrev pub IsIn : ℕ → Block → Type 0
IsIn r b = (b.start ≤ r) × (r < b.start + b.size)

-- the same as a test
abbrev pub is_in : ℕ → Block → Bool
is_in r b = nat_le b.start r && nat_lt r (b.start + b.size)
