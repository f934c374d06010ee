-- The codes of the rows of blocks. This project's own.
use Rattle.std.specs.Prelude.{ℕ, List}
use Rattle.fr_store.specs.declared.blocks.Blocks.{Blocks}
use Rattle.fr_store.specs.Blocks.{code_at}

-- the code of each row
abbrev pub codes_of : Blocks → ℕ → List ℕ
codes_of b = code_at b.alphabet b.rows.items b.places.items
