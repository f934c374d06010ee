-- Hashes of rows. This project's own.
use Rattle.std.specs.Prelude.{ℕ, zero, suc, ◌≡◌, ◌<◌, ◌+◌, ◌*◌, ◌/◌, ◌%◌, List, length, slice_index}
use Rattle.fr_model.specs.Permutations.{image}
use Rattle.fr_model.specs.Terms.{IsAlike}
use Rattle.fr_machine.specs.declared.row.Row.{Row}
use Rattle.fr_machine.specs.Rows.{row_term, row_at}

-- the hash of a row after so many letters, where the rows have these hashes for words that are one letter shorter
abbrev pub hash_of : Row → List ℕ → ℕ → ℕ
hash_of r shorter zero = 7
hash_of r shorter (suc x) = ((hash_of r shorter x + slice_index shorter (slice_index r.next x)) * 1640531527 / 65536 + image r.perm (suc x)) % 4294967296

-- the hashes for one letter more
pub record AreHashes (rows : List Row) (shorter hashes : List ℕ) : Type 0 where
  pub count : length hashes ≡ length rows
  pub each : (s : ℕ) → s < length rows → slice_index hashes s ≡ hash_of (row_at rows s) shorter (length (row_at rows s).perm)

-- rows that act alike have one number
abbrev pub AreInvariant : List Row → List ℕ → Type 0
AreInvariant rows hs = (s t : ℕ) → s < length rows → t < length rows → IsAlike (row_term rows s) (row_term rows t) → slice_index hs s ≡ slice_index hs t
