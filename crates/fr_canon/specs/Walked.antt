-- The code of a state, or of a row, as a breadth-first walk with letters in order lists it: what a store knows of a handle.
-- What is known has to be a function, so the walk is written out here; that this is the code of the element in the sense of
-- the relation between terms and codes is said by `StatesHaveCodes`. This project's own, on the pattern of the standard
-- numbering of a minimal automaton.
use Rattle.std.specs.Prelude.{ℕ, zero, suc, ◌==◌, nat_lt, if◌then◌else◌, List, [], ◌∷◌, ◌++◌, length, slice_index}
use Rattle.fr_model.specs.Ranks.{rank}
use Rattle.fr_model.specs.Automata.{State, next_state}
use Rattle.fr_machine.specs.declared.row.Row.{Row}
use Rattle.fr_machine.specs.Rows.{states_of}
use Rattle.fr_canon.specs.Listings.{row_output}

-- the number of a key among those that were met
abbrev pub number_of : List ℕ → ℕ → ℕ
number_of [] key = 0
number_of (k ∷ keys) key = if k == key then 0 else suc (number_of keys key)

-- the keys that were met, when this one is met
abbrev pub meeting : List ℕ → ℕ → List ℕ
meeting [] key = key ∷ []
meeting (k ∷ keys) key = if k == key then k ∷ keys else k ∷ meeting keys key

-- the keys that a walk has met, and the code so far
pub record Walked : Type 0 where
  pub keys : List ℕ
  pub code : List ℕ

-- the walk, when a next state is met
abbrev pub with_next : Walked → ℕ → Walked
with_next w target = record { keys = meeting w.keys target; code = w.code ++ suc (number_of w.keys target) ∷ [] }

-- the walk, when the next states of a key at the first letters are met
abbrev pub with_nexts : (ℕ → ℕ → ℕ) → ℕ → Walked → ℕ → Walked
with_nexts step key w zero = w
with_nexts step key w (suc x) = with_next (with_nexts step key w x) (step key (suc x))

-- the walk, when the state of a key over d letters is listed
abbrev pub with_state : ℕ → (ℕ → ℕ → ℕ) → (ℕ → List ℕ) → Walked → ℕ → Walked
with_state d step output w key = with_nexts step key (record { keys = w.keys; code = w.code ++ rank (output key) ∷ [] }) d

-- the code, when the keys from the j-th on are listed, at most so many
abbrev pub walked : ℕ → (ℕ → ℕ → ℕ) → (ℕ → List ℕ) → ℕ → ℕ → Walked → List ℕ
walked d step output zero j w = w.code
walked d step output (suc most) j w = if nat_lt j (length w.keys) then walked d step output most (suc j) (with_state d step output w (slice_index w.keys j)) else w.code

-- the code of a state of an automaton over d letters
unfoldable pub state_code : ℕ → List State → ℕ → List ℕ
state_code d qs s = walked d (next_state qs) (row_output qs) 1024 0 (record { keys = s ∷ []; code = [] })

-- the code of a row
unfoldable pub row_code : ℕ → List Row → ℕ → List ℕ
row_code d rows s = state_code d (states_of rows) s
