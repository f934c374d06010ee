-- Keys with their numbers, in buckets by a hash. This project's own.
use Rattle.std.specs.Prelude.{ℕ, ◌≡◌, ◌≢◌, ◌<◌, ◌≤◌, ◌+◌, ◌*◌, ◌%◌, ◌⊎◌, if◌then◌else◌, List, [], ◌∷◌, length, drop, slice_index, slice_index_or, Option, Some, None, nat_eq}
use Rattle.std.specs.Cmp.Lexicographic.{pointwise}
use Rattle.fr_classes.specs.declared.key_table.Entry.{Entry}
use Rattle.fr_classes.specs.declared.key_table.KeyTable.{KeyTable}

-- the hash of the numbers of a key, after those that gave h
abbrev pub key_hash_from : ℕ → List ℕ → ℕ
key_hash_from h [] = h
key_hash_from h (n ∷ ns) = key_hash_from ((h * 1000003 + n) % 4294967296) ns

-- the bucket of a key among so many, by its class and by the classes of next rows, which stand behind nine numbers
abbrev pub bucket_of : ℕ → List ℕ → ℕ
bucket_of buckets key = key_hash_from (slice_index key 0) (drop 9 key) % buckets

-- the entry at a place
abbrev pub entry_at : List Entry → ℕ → Entry
entry_at es i = slice_index_or es i (record { key = []; number = 0; earlier = 0 })

-- the bucket of the entry at a place
abbrev pub bucket_at : ℕ → List Entry → ℕ → ℕ
bucket_at buckets es i = bucket_of buckets (entry_at es i).key

-- the first, or else the second
abbrev pub first_some : Option ℕ → Option ℕ → Option ℕ
first_some None o = o
first_some (Some n) o = Some n

-- the number of the last entry of a key
abbrev pub number_among : List Entry → List ℕ → Option ℕ
number_among [] key = None
number_among (e ∷ es) key = first_some (number_among es key) (if pointwise nat_eq e.key key then Some e.number else None)

-- the number that a key was given last
abbrev pub number_in : KeyTable → List ℕ → Option ℕ
number_in t key = number_among t.entries.items key

-- each entry names the one of its bucket that was made before it, and each bucket its latest one
pub record IsKeyTable (t : KeyTable) : Type 0 where
  pub some : 0 < length t.latest.items
  pub within : (b : ℕ) → slice_index t.latest.items b ≤ length t.entries.items
  pub latest : (b i : ℕ) → b < length t.latest.items → slice_index t.latest.items b ≡ i + 1 → bucket_at (length t.latest.items) t.entries.items i ≡ b
  pub after : (b i : ℕ) → b < length t.latest.items → slice_index t.latest.items b ≤ i → i < length t.entries.items → bucket_at (length t.latest.items) t.entries.items i ≢ b
  pub falls : (j : ℕ) → (entry_at t.entries.items j).earlier ≤ j
  pub earlier : (j i : ℕ) → j < length t.entries.items → (entry_at t.entries.items j).earlier ≡ i + 1 → bucket_at (length t.latest.items) t.entries.items i ≡ bucket_at (length t.latest.items) t.entries.items j
  pub between : (j i : ℕ) → j < length t.entries.items → (entry_at t.entries.items j).earlier ≤ i → i < j → bucket_at (length t.latest.items) t.entries.items i ≢ bucket_at (length t.latest.items) t.entries.items j

-- the key has this number, and the others have the numbers that they had
abbrev pub IsEntered : KeyTable → KeyTable → List ℕ → ℕ → Type 0
IsEntered t t' key n = (number_in t' key ≡ Some n) × ((q : List ℕ) → (q ≡ key) ⊎ (number_in t' q ≡ number_in t q))
