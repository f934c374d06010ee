-- Keys that are numbered in the order in which they are met, in buckets by their remainders. This project's own.
use Rattle.std.specs.Prelude.{ℕ, ◌≡◌, ◌≢◌, ◌<◌, ◌≤◌, ◌+◌, ◌%◌, ◌⊎◌, List, [], ◌∷◌, ◌++◌, length, slice_index}
use Rattle.fr_classes.specs.Numberings.{IsNumberedFrom, numbers_after}
use Rattle.fr_classes.specs.declared.sparse.SparseWalk.{SparseWalk}

-- the bucket of key i
abbrev pub bucket_at : SparseWalk → ℕ → ℕ
bucket_at w i = slice_index w.keys.items i % length w.latest.items

-- each key names the one of its bucket that was met before it, and each bucket its latest one; no key was met twice
pub record IsSparse (w : SparseWalk) : Type 0 where
  pub some : 0 < length w.latest.items
  pub count : length w.earlier.items ≡ length w.keys.items
  pub within : (b : ℕ) → slice_index w.latest.items b ≤ length w.keys.items
  pub latest : (b i : ℕ) → b < length w.latest.items → slice_index w.latest.items b ≡ i + 1 → bucket_at w i ≡ b
  pub after : (b i : ℕ) → b < length w.latest.items → slice_index w.latest.items b ≤ i → i < length w.keys.items → bucket_at w i ≢ b
  pub falls : (j : ℕ) → slice_index w.earlier.items j ≤ j
  pub earlier : (j i : ℕ) → j < length w.keys.items → slice_index w.earlier.items j ≡ i + 1 → bucket_at w i ≡ bucket_at w j
  pub between : (j i : ℕ) → j < length w.keys.items → slice_index w.earlier.items j ≤ i → i < j → bucket_at w i ≢ bucket_at w j
  pub apart : (i j : ℕ) → i < j → j < length w.keys.items → slice_index w.keys.items i ≢ slice_index w.keys.items j

-- a key has this number, as it had or as the next one
pub record IsMet (old keys : List ℕ) (key n : ℕ) : Type 0 where
  pub inside : n < length keys
  pub value : slice_index keys n ≡ key
  pub grown : (keys ≡ old) ⊎ ((keys ≡ old ++ key ∷ []) × (n ≡ length old))

-- the first n keys have these numbers, by the keys that were met
pub record AreMet (keys numbers met : List ℕ) (n : ℕ) : Type 0 where
  pub size : length numbers ≡ n
  pub first : IsNumberedFrom 0 numbers
  pub counted : numbers_after 0 numbers ≡ length met
  pub few : length met ≤ n
  pub own : (j : ℕ) → j < n → (slice_index numbers j < length met) × (slice_index met (slice_index numbers j) ≡ slice_index keys j)
  pub used : (c : ℕ) → c < length met → (j : ℕ) × (j < n) × (slice_index numbers j ≡ c)
