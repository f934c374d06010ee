-- States that a walk lists in order: how the canonical numbering is made. This project's own.
use Rattle.std.specs.Prelude.{ℕ, suc, ◌≡◌, ◌<◌, ◌≤◌, ◌+◌, List, length, slice_index}
use Rattle.fr_model.specs.Automata.{State, state_at}
use Rattle.fr_machine.specs.declared.row.Row.{Row}
use Rattle.fr_machine.specs.Rows.{state_of}
use Rattle.fr_machine.specs.Walks.{WalkView, Extends}
use Rattle.fr_machine.specs.Orders.{IsOrdered}

-- what a state of a machine puts out
abbrev pub row_output : List State → ℕ → List ℕ
row_output qs k = (state_at qs k).perm

-- the first next states of a key, by their numbers, have their words
pub record IsNextPart (d bound : ℕ) (step : ℕ → ℕ → ℕ) (w w' : WalkView) (key : ℕ) (next : List ℕ) (x : ℕ) : Type 0 where
  pub width : length next ≡ x
  pub extends : Extends w.keys w'.keys
  pub below : ((i : ℕ) → i < length w.keys → slice_index w.keys i < bound) → (i : ℕ) → i < length w'.keys → slice_index w'.keys i < bound
  pub nexts : (y : ℕ) → y < x → (slice_index next y < length w'.keys) × (slice_index w'.keys (slice_index next y) ≡ step key (suc y))
  pub ordered : (start j : ℕ) (words : List (List ℕ)) → j < length w.keys → slice_index w.keys j ≡ key → IsOrdered d step start w.keys words j 1 → (words' : List (List ℕ)) × IsOrdered d step start w'.keys words' j (x + 1)

-- the state of a key, whose next states are numbered
pub record IsStateOf (d : ℕ) (step : ℕ → ℕ → ℕ) (output : ℕ → List ℕ) (keys : List ℕ) (key : ℕ) (q : State) : Type 0 where
  pub perm : q.perm ≡ output key
  pub arity : length q.next ≡ d
  pub nexts : (y : ℕ) → y < d → (slice_index q.next y < length keys) × (slice_index keys (slice_index q.next y) ≡ step key (suc y))

-- a key whose next states are numbered, and its state
pub record IsKeyListed (d bound : ℕ) (step : ℕ → ℕ → ℕ) (output : ℕ → List ℕ) (w w' : WalkView) (key : ℕ) (q : State) : Type 0 where
  pub extends : Extends w.keys w'.keys
  pub below : ((i : ℕ) → i < length w.keys → slice_index w.keys i < bound) → (i : ℕ) → i < length w'.keys → slice_index w'.keys i < bound
  pub is : IsStateOf d step output w'.keys key q
  pub ordered : (start j : ℕ) (words : List (List ℕ)) → j < length w.keys → slice_index w.keys j ≡ key → IsOrdered d step start w.keys words j 1 → (words' : List (List ℕ)) × IsOrdered d step start w'.keys words' (j + 1) 1

-- a row with room for eight next rows, and zeros past the letters
pub record IsFilled (d : ℕ) (r : Row) : Type 0 where
  pub degree : length r.perm ≡ d
  pub width : length r.next ≡ 8
  pub zeros : (x : ℕ) → d ≤ x → x < 8 → slice_index r.next x ≡ 0

-- the same with the state as a row
pub record IsRowListed (d bound : ℕ) (step : ℕ → ℕ → ℕ) (output : ℕ → List ℕ) (w w' : WalkView) (key : ℕ) (r : Row) : Type 0 where
  pub listed : IsKeyListed d bound step output w w' key (state_of r)
  pub filled : IsFilled d r

-- a walk, and the states of its first keys
pub record IsListed (d bound : ℕ) (step : ℕ → ℕ → ℕ) (output : ℕ → List ℕ) (start : ℕ) (keys : List ℕ) (j : ℕ) (states : List State) : Type 0 where
  pub first : slice_index keys 0 ≡ start
  pub below : (i : ℕ) → i < length keys → slice_index keys i < bound
  pub words : List (List ℕ)
  pub ordered : IsOrdered d step start keys words j 1
  pub count : length states ≡ j
  pub done : j ≤ length keys
  pub listed : (i : ℕ) → i < j → IsStateOf d step output keys (slice_index keys i) (state_at states i)
