-- Classes of the rows of a machine that grows by rows behind the others. This project's own.
use Rattle.std.specs.Prelude.{ℕ, ◌≡◌, ◌≢◌, ◌<◌, ◌≤◌, ◌+◌, ◌⊎◌, true, List, [], length, map, slice_index, slice_index_or}
use Rattle.std.specs.List.{All}
use Rattle.fr_machine.specs.declared.row.Row.{Row}
use Rattle.fr_classes.specs.declared.growing.GrowingClasses.{GrowingClasses}
use Rattle.fr_machine.specs.Rows.{row_at}
use Rattle.fr_classes.specs.Refinement.{signature_at}
use Rattle.fr_classes.specs.Hashes.{hash_of}
use Rattle.fr_classes.specs.Sparse.{IsSparse, AreMet}

-- the hash of row s for words of at most k letters
abbrev pub hash_at : List (List ℕ) → ℕ → ℕ → ℕ
hash_at hs s k = slice_index (slice_index_or hs s []) k

-- the hashes of all rows for words of at most k letters
abbrev pub level : List (List ℕ) → ℕ → List ℕ
level hs k = map (λ h. slice_index h k) hs

-- rows from the first to the last have hashes for one letter more than k, and all else is as it was
pub record IsHashed (rows : List Row) (first k last : ℕ) (hs hs' : List (List ℕ)) : Type 0 where
  pub count : length hs' ≡ length hs
  pub wide : All (λ h. length h ≡ 25) hs'
  pub others : (s j : ℕ) → (s < first) ⊎ (last ≤ s) ⊎ (j ≢ k + 1) → hash_at hs' s j ≡ hash_at hs s j
  pub new : (s : ℕ) → first ≤ s → s < last → hash_at hs' s (k + 1) ≡ hash_of (row_at rows s) (level hs k) (length (row_at rows s).perm)

-- the hashes of rows whose next rows are among them, for words of at most 0 to so many letters
pub record AreLevels (rows : List Row) (hs : List (List ℕ)) (depth : ℕ) : Type 0 where
  pub closed : (s x : ℕ) → s < length rows → x < length (row_at rows s).perm → slice_index (row_at rows s).next x < length rows
  pub count : length hs ≡ length rows
  pub wide : All (λ h. length h ≡ 25) hs
  pub zeros : (s : ℕ) → s < length rows → hash_at hs s 0 ≡ 0
  pub each : (k s : ℕ) → k < depth → s < length rows → hash_at hs s (k + 1) ≡ hash_of (row_at rows s) (level hs k) (length (row_at rows s).perm)

-- the first entries are these
pub record AreListed (old xs : List (List ℕ)) : Type 0 where
  pub least : length old ≤ length xs
  pub same : (c : ℕ) → c < length old → slice_index_or xs c [] ≡ slice_index_or old c []

-- the signature of row s is known of its class
abbrev pub IsSigned : List Row → List ℕ → List (List ℕ) → ℕ → Type 0
IsSigned rows of known s = (slice_index of s < length known) × (slice_index_or known (slice_index of s) [] ≡ signature_at rows of s)

-- the classes of these rows
pub record IsGrowing (rows : List Row) (g : GrowingClasses) : Type 0 where
  pub deep : g.depth ≤ 24
  pub levels : AreLevels rows g.hashes.items g.depth
  pub sparse : IsSparse g.walk
  pub met : AreMet (level g.hashes.items g.depth) g.of.items g.walk.keys.items (length rows)
  pub signed : g.stable ≡ true → (s : ℕ) → s < length rows → IsSigned rows g.of.items g.known.items s
