-- Marks on rows, and levels of components. That growth is read off how cycles lie behind each other is Sidki's (on the
-- growth of automorphisms of one-rooted trees); the levels that count them are this project's own.
use Rattle.std.specs.Prelude.{ℕ, ◌≡◌, ◌≢◌, ◌+◌, ◌<◌, ◌≤◌, ◌⊎◌, ◌↔◌, ◌==◌, Bool, if◌then◌else◌, List, length, slice_index}
use Rattle.fr_model.specs.Words.{IsLetter}
use Rattle.fr_model.specs.Automata.{next_state}
use Rattle.fr_model.specs.Terms.{One, IsAlike}
use Rattle.fr_machine.specs.declared.row.Row.{Row}
use Rattle.fr_machine.specs.Rows.{states_of, row_term}
use Rattle.fr_growth.specs.Walks.{sum_letters}

-- 0 for the rows that act as 1, and 1 for the others
pub record AreMoving (rows : List Row) (moving : List ℕ) : Type 0 where
  pub count : length moving ≡ length rows
  pub small : (s : ℕ) → slice_index moving s ≤ 1
  pub right : (s : ℕ) → s < length rows → (slice_index moving s ≡ 0) ↔ IsAlike (row_term rows s) One

-- the component of the next row of s at x
abbrev pub next_component : List Row → List ℕ → ℕ → ℕ → ℕ
next_component rows numbers s x = slice_index numbers (next_state (states_of rows) s x)

-- whether a letter stays in the component
abbrev pub stays : List Row → List ℕ → ℕ → ℕ → Bool
stays rows numbers s x = next_component rows numbers s x == slice_index numbers s

-- at how many letters a row stays in its component
abbrev pub returns_of : ℕ → List Row → List ℕ → ℕ → ℕ
returns_of d rows numbers s = sum_letters (λ x. if stays rows numbers s x then 1 else 0) d

-- the same, and 0 for a row that acts as 1
pub record AreReturns (d : ℕ) (rows : List Row) (moving numbers returns : List ℕ) : Type 0 where
  pub count : length returns ≡ length rows
  pub right : (s : ℕ) → s < length rows → slice_index returns s ≡ (if slice_index moving s == 0 then 0 else returns_of d rows numbers s)

-- the greatest level of a component to which s leads by a letter out of its own; 0 where there is none
pub record IsLevelBelow (d : ℕ) (rows : List Row) (numbers levels : List ℕ) (s level : ℕ) : Type 0 where
  pub above : (x : ℕ) → IsLetter d x → next_component rows numbers s x ≢ slice_index numbers s → slice_index levels (next_component rows numbers s x) ≤ level
  pub attained : (level ≡ 0) ⊎ ((x : ℕ) × IsLetter d x × (next_component rows numbers s x ≢ slice_index numbers s) × (level ≡ slice_index levels (next_component rows numbers s x)))

-- a row at which the level of its component c is attained: the gain of the row, added to a level below it or to none
pub record IsHead (d : ℕ) (rows : List Row) (numbers gains levels : List ℕ) (c h : ℕ) : Type 0 where
  pub below : h < length rows
  pub inside : slice_index numbers h ≡ c
  pub attained : (slice_index levels c ≡ slice_index gains h) ⊎ ((x : ℕ) × IsLetter d x × (next_component rows numbers h x ≢ c) × (slice_index levels c ≡ slice_index levels (next_component rows numbers h x) + slice_index gains h))

-- levels of components: at each row at least its gain, added to each level below it; and a head for each that is not 0
pub record AreLevels (d : ℕ) (rows : List Row) (numbers gains levels heads : List ℕ) : Type 0 where
  pub count : length levels ≡ length rows
  pub heads_count : length heads ≡ length rows
  pub low : (c : ℕ) → slice_index levels c ≤ c + 1
  pub turn : (s : ℕ) → s < length rows → slice_index gains s ≤ slice_index levels (slice_index numbers s)
  pub above : (s x : ℕ) → s < length rows → IsLetter d x → next_component rows numbers s x ≢ slice_index numbers s
      → slice_index levels (next_component rows numbers s x) + slice_index gains s ≤ slice_index levels (slice_index numbers s)
  pub headed : (c : ℕ) → c < length rows → 0 < slice_index levels c → IsHead d rows numbers gains levels c (slice_index heads c)

-- the level of one component was raised to this one, which is attained at s, if it was less
pub record IsRaised (levels heads : List ℕ) (c level s : ℕ) (levels' heads' : List ℕ) : Type 0 where
  pub count : length levels' ≡ length levels
  pub heads_count : length heads' ≡ length heads
  pub others : (k : ℕ) → k ≢ c → (slice_index levels' k ≡ slice_index levels k) × (slice_index heads' k ≡ slice_index heads k)
  pub least : level ≤ slice_index levels' c
  pub more : slice_index levels c ≤ slice_index levels' c
  pub at : ((slice_index levels' c ≡ slice_index levels c) × (slice_index heads' c ≡ slice_index heads c)) ⊎ ((slice_index levels' c ≡ level) × (slice_index heads' c ≡ s))

-- a row that moves stays in its component at one letter at most
pub record IsTame (d : ℕ) (rows : List Row) (numbers : List ℕ) : Type 0 where
  pub moving : List ℕ
  pub returns : List ℕ
  pub marks : AreMoving rows moving
  pub counts : AreReturns d rows moving numbers returns
  pub few : (s : ℕ) → slice_index returns s ≤ 1
