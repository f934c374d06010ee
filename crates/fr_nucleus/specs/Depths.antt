-- How many letters lead out of some rows of a machine for certain. This project's own.
use Rattle.std.specs.Prelude.{ℕ, suc, ◌≡◌, ◌<◌, List, Bool, true, false, length, slice_index, slice_index_or}
use Rattle.fr_model.specs.Words.{IsWord}
use Rattle.fr_model.specs.Automata.{State, state_after}
use Rattle.fr_machine.specs.declared.row.Row.{Row}
use Rattle.fr_machine.specs.Rows.{row_at}

-- the mark of a state
abbrev pub mark_at : List Bool → ℕ → Bool
mark_at marks s = slice_index_or marks s false

-- some word of this length leads from the state to a marked one
abbrev pub LeadsIn : ℕ → List State → List Bool → ℕ → ℕ → Type 0
LeadsIn d qs marks k s = (v : List ℕ) × IsWord d v × (length v ≡ k) × (mark_at marks (state_after qs s v) ≡ true)

-- no word of length k leads from a state to a marked one, but a word of each length below k does
pub record IsWayOut (d : ℕ) (qs : List State) (marks : List Bool) (k : ℕ) : Type 0 where
  pub within : (s : ℕ) → s < length qs → ¬ LeadsIn d qs marks k s
  pub last : (j : ℕ) → k ≡ suc j → (s : ℕ) × (s < length qs) × LeadsIn d qs marks j s

-- a mark for each state, from which words of this length lead to marked ones
pub record AreBack (d : ℕ) (qs : List State) (marks : List Bool) (k : ℕ) (back : List Bool) : Type 0 where
  pub count : length back ≡ length qs
  pub leads : (s : ℕ) → s < length qs → mark_at back s ≡ true → LeadsIn d qs marks k s
  pub none : (s : ℕ) → s < length qs → mark_at back s ≡ false → ¬ LeadsIn d qs marks k s

-- a letter leads to a marked row
abbrev pub LeadsInAt : Row → List Bool → Type 0
LeadsInAt r marks = (x : ℕ) × (x < length r.perm) × (mark_at marks (slice_index r.next x) ≡ true)

-- none of the first letters does
abbrev pub LeadsOut : Row → List Bool → ℕ → Type 0
LeadsOut r marks n = (x : ℕ) → x < n → mark_at marks (slice_index r.next x) ≡ false

-- a mark for each of the first rows from which a letter leads to a marked one
pub record IsBackPart (rows : List Row) (marks back : List Bool) (s : ℕ) : Type 0 where
  pub count : length back ≡ length rows
  pub marked : (t : ℕ) → t < s → mark_at back t ≡ true → LeadsInAt (row_at rows t) marks
  pub free : (t : ℕ) → t < s → mark_at back t ≡ false → LeadsOut (row_at rows t) marks (length (row_at rows t).perm)

-- a mark for each row from which a letter leads to a marked one
abbrev pub IsBackOf : List Row → List Bool → List Bool → Type 0
IsBackOf rows marks back = IsBackPart rows marks back (length rows)
