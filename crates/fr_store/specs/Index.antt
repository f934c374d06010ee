-- Handles with the codes of their rows, for each row the handle of its element, and a hash table in which handles are found
-- by their codes. This project's own; the table is that of open addressing with linear probing, as in Knuth, The Art of
-- Computer Programming, volume 3, 6.4, algorithm L, with the walk upwards.
use Rattle.std.specs.Prelude.{ℕ, ◌≡◌, ◌≢◌, ◌⊎◌, ◌+◌, ◌-◌, ◌%◌, ◌<◌, ◌≤◌, ◌==◌, ◌||◌, Bool, true, false, if◌then◌else◌, Option, Some, None, List, [], ◌∷◌, length, slice_index}
use Rattle.fr_canon.specs.Codes.{home_of}

-- n is a handle
abbrev pub holds : List ℕ → ℕ → Bool
holds [] n = false
holds (h ∷ hs) n = (h == n) || holds hs n

-- the codes that the handles are known by
abbrev pub known_in : (ℕ → List ℕ) → List ℕ → ℕ → Option (List ℕ)
known_in code handles n = if holds handles n then Some (code n) else None

-- each handle is a row, and no two have one code
pub record AreDistinct (code : ℕ → List ℕ) (rows : ℕ) (handles : List ℕ) : Type 0 where
  pub within : (i : ℕ) → i < length handles → slice_index handles i < rows
  pub apart : (i j : ℕ) → i < j → j < length handles → code (slice_index handles i) ≢ code (slice_index handles j)

-- no handle has the code
abbrev pub IsNew : (ℕ → List ℕ) → List ℕ → List ℕ → Type 0
IsNew code handles wanted = (n : ℕ) → holds handles n ≡ true → code n ≢ wanted

-- the handle has the code
pub record IsFound (code : ℕ → List ℕ) (handles : List ℕ) (wanted : List ℕ) (n : ℕ) : Type 0 where
  pub handle : holds handles n ≡ true
  pub is : code n ≡ wanted

-- the first rows have each the handle with its code
pub record IsIndex (code : ℕ → List ℕ) (rows : ℕ) (handles links : List ℕ) : Type 0 where
  pub distinct : AreDistinct code rows handles
  pub few : length handles ≤ length links
  pub most : length links ≤ rows
  pub is_handle : (r : ℕ) → r < length links → holds handles (slice_index links r) ≡ true
  pub linked : (r : ℕ) → r < length links → code (slice_index links r) ≡ code r

-- the cell that a walk comes to in so many steps; behind the last cell comes the first
abbrev pub cell_at : ℕ → ℕ → ℕ → ℕ
cell_at cells start steps = (start + steps) % cells

-- what stands in the cell that a walk from the home of a code comes to in so many steps
abbrev pub met_at : List ℕ → List ℕ → ℕ → ℕ
met_at cells code steps = slice_index cells (cell_at (length cells) (home_of code (length cells)) steps)

-- a cell is 0, or holds a handle and one more, and each handle stands in one cell: a walk from the home of its code that
-- comes to a 0 has met it before
pub record IsTable (code : ℕ → List ℕ) (handles cells : List ℕ) : Type 0 where
  pub valid : (c : ℕ) → c < length cells → slice_index cells c ≢ 0 → holds handles (slice_index cells c - 1) ≡ true
  pub once : (c e : ℕ) → c < length cells → e < length cells → slice_index cells c ≢ 0 → slice_index cells c ≡ slice_index cells e → c ≡ e
  pub met : (n steps : ℕ) → holds handles n ≡ true → met_at cells (code n) steps ≡ 0 → ¬ ((i : ℕ) → i < steps → met_at cells (code n) i ≢ n + 1)

-- no cell is empty
abbrev pub AreFull : List ℕ → Type 0
AreFull cells = (c : ℕ) → c < length cells → slice_index cells c ≢ 0

-- this cell is the first 0 on a walk
pub record IsFirstEmpty (cells : List ℕ) (start cell : ℕ) : Type 0 where
  pub steps : ℕ
  pub is : cell ≡ cell_at (length cells) start steps
  pub empty : slice_index cells cell ≡ 0
  pub passed : (i : ℕ) → i < steps → slice_index cells (cell_at (length cells) start i) ≢ 0

-- a walk from the home of a code has met handles with other codes alone
abbrev pub IsPassed : (ℕ → List ℕ) → List ℕ → List ℕ → ℕ → Type 0
IsPassed code cells wanted steps = (i : ℕ) → i < steps → (met_at cells wanted i ≢ 0) × (code (met_at cells wanted i - 1) ≢ wanted)

-- this cell is the first 0 on a walk from the home of a code, which met handles with other codes alone
pub record IsGap (code : ℕ → List ℕ) (cells : List ℕ) (wanted : List ℕ) (cell : ℕ) : Type 0 where
  pub steps : ℕ
  pub is : cell ≡ cell_at (length cells) (home_of wanted (length cells)) steps
  pub empty : met_at cells wanted steps ≡ 0
  pub passed : IsPassed code cells wanted steps

-- a row has got this handle, and no other row became one
pub record IsGiven (code : ℕ → List ℕ) (rows row : ℕ) (handles handles' cells' : List ℕ) (n : ℕ) : Type 0 where
  pub distinct : AreDistinct code rows handles'
  pub table : IsTable code handles' cells'
  pub few : length handles' ≤ length handles + 1
  pub keeps : (m : ℕ) → holds handles m ≡ true → holds handles' m ≡ true
  pub only : (m : ℕ) → holds handles' m ≡ true → (holds handles m ≡ true) ⊎ (m ≡ row)
  pub handle : holds handles' n ≡ true
  pub is : code n ≡ code row

-- a hint is 0, or the handle with the code of a row, and one more; the rows are those from a first one on
abbrev pub AreHints : (ℕ → List ℕ) → List ℕ → ℕ → List ℕ → Type 0
AreHints code handles start hints = (k : ℕ) → slice_index hints k ≢ 0 → IsFound code handles (code (start + k)) (slice_index hints k - 1)

-- the next rows have got handles
pub record IsLinked (code : ℕ → List ℕ) (rows count : ℕ) (handles links handles' links' cells' : List ℕ) : Type 0 where
  pub index : IsIndex code rows handles' links'
  pub table : IsTable code handles' cells'
  pub longer : length links' ≡ length links + count
  pub keeps : (n : ℕ) → holds handles n ≡ true → holds handles' n ≡ true
  pub only : (n : ℕ) → holds handles' n ≡ true → (holds handles n ≡ true) ⊎ ((length links ≤ n) × (n < length links + count))
