-- The numbers that stand in hash cells, in links and in the cache. This project's own.
use Rattle.std.specs.Prelude.{◌≡◌, ℕ, ◌+◌, ◌-◌, ◌*◌, ◌%◌, ◌≤◌}
use Rattle.fr_layout.specs.declared.plan.Plan.{Plan}
use Rattle.fr_layout.specs.declared.plan.Block.{Block}
use Rattle.fr_layout.specs.Places.{IsIn}

-- the pack of the row r of the block b: what a cell or a link says of it
abbrev pub pack_of : Block → ℕ → ℕ
pack_of b r = 1 + ((r - b.start) + (1024 * (b.size - 1) + 1048576 * b.start))

-- a pack of a row of a block of at most 1,024 rows that lies in the table
abbrev pub IsPack : Plan → ℕ → Type 0
IsPack p n = (b : Block) × (r : ℕ) × (n ≡ pack_of b r) × IsIn r b × (b.size ≤ 1024) × (b.start + b.size ≤ p.capacity)

-- the cache word that says that c is the product of a and b
abbrev pub product_word : ℕ → ℕ → ℕ → ℕ
product_word a b c = 1 + (a + (1048576 * b + 1099511627776 * c))

-- the place in the cache of the product of a and b
abbrev pub pair_place : ℕ → ℕ → ℕ
pair_place a b = (31 * a + b) % 65536
