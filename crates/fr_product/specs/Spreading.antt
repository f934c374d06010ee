-- Rows behind the first ones, and what is reached from cycles among them.
use Rattle.std.specs.Prelude.{ℕ, ◌≡◌, ◌<◌, ◌≤◌, ◌+◌, ◌-◌, ◌⊎◌, Bool, true, false, if◌then◌else◌, List, [], ◌∷◌, length, map, slice_index, slice_index_or}
use Rattle.fr_model.specs.Words.{IsLetter}
use Rattle.fr_model.specs.Automata.{State, state_at, next_state, IsLimitState}
use Rattle.fr_machine.specs.declared.row.Row.{Row}
use Rattle.fr_product.specs.Limits.{IsIn}

-- the first states lead only to one another
pub record AreClosed (d first : ℕ) (qs : List State) : Type 0 where
  pub inside : first ≤ length qs
  pub closed : (s x : ℕ) → s < first → IsLetter d x → next_state qs s x < first

-- the states ps are those of qs behind the first ones, where state 0 stands for each of the first ones
pub record AreAlone (d first : ℕ) (qs ps : List State) : Type 0 where
  pub count : length ps + first ≡ length qs + 1
  pub leads : (s x : ℕ) → s < length qs → IsLetter d x → next_state ps (s + 1 - first) x ≡ next_state qs s x + 1 - first

-- a row with the numbers that its next rows have among these
abbrev pub renumbered : ℕ → Row → Row
renumbered first r = record { perm = r.perm; next = map (λ n. n + 1 - first) r.next }

-- how many rows have no mark
abbrev pub unmarked : List Bool → ℕ
unmarked [] = 0
unmarked (b ∷ bs) = (if b then 0 else 1) + unmarked bs

-- limit states are marked, and those on cycles all are. A marked one leads to marked ones, or waits, or is to be looked at from
-- this number on, or leads to members of one more list, which are limit states
pub record IsSpreading (d : ℕ) (qs : List State) (marks : List Bool) (todo more : List ℕ) (from : ℕ) : Type 0 where
  pub count : length marks ≡ length qs
  pub limits : (y : ℕ) → y < length qs → slice_index_or marks y false ≡ true → IsLimitState d qs y
  pub waits : (i : ℕ) → i < length todo → (slice_index todo i < length qs) × (slice_index_or marks (slice_index todo i) false ≡ true)
  pub due : (n : ℕ) → IsIn more n → (n < length qs) × IsLimitState d qs n
  pub cycles : (r : ℕ) (h : IsLimitState d qs r) → slice_index_or marks h.on false ≡ true
  pub leads : (y n : ℕ) → y < length qs → slice_index_or marks y false ≡ true → IsIn (state_at qs y).next n → (from ≤ y) ⊎ IsIn todo y ⊎ IsIn more n ⊎ (slice_index_or marks n false ≡ true)
