-- The rows from which words of one length after the other lead to a goal, and the least of these words. This project's own.
use Rattle.std.specs.Prelude.{ℕ, ◌≡◌, ◌≢◌, ◌+◌, ◌-◌, ◌<◌, ◌≤◌, ◌⊎◌, ◌==◌, ◌||◌, Bool, true, false, List, [], ◌∷◌, ◌++◌, length, slice_index, slice_index_or, slice_set, take, Option, MatchOption}
use Rattle.fr_model.specs.Words.{IsLetter, IsWord}
use Rattle.fr_model.specs.Automata.{next_state, state_after}
use Rattle.fr_model.specs.Separation.{IsLexBefore, IsShortlexBefore}
use Rattle.fr_machine.specs.declared.row.Row.{Row}
use Rattle.fr_machine.specs.Rows.{states_of}
use Rattle.fr_growth.specs.declared.edges.Edge.{Edge}
use Rattle.fr_growth.specs.declared.least.Branch.{Branch}
use Rattle.fr_growth.specs.Bits.{has_bit}
use Rattle.fr_growth.specs.Edges.{edge_at, target_at}

-- whether a row is marked
abbrev pub is_marked : List Bool → ℕ → Bool
is_marked marks s = slice_index_or marks s false

-- a word that leads from s to a goal
pub record IsGoalWord (d : ℕ) (rows : List Row) (goals : List Bool) (s : ℕ) (w : List ℕ) : Type 0 where
  pub valid : IsWord d w
  pub there : is_marked goals (state_after (states_of rows) s w) ≡ true

-- the shortlex least of them
pub record IsLeastWord (d : ℕ) (rows : List Row) (goals : List Bool) (s : ℕ) (w : List ℕ) : Type 0 where
  pub word : IsGoalWord d rows goals s w
  pub least : (v : List ℕ) → IsGoalWord d rows goals s v → ¬ IsShortlexBefore v w

-- the first two of the least length that has two of them
pub record IsLeastPair (d : ℕ) (rows : List Row) (goals : List Bool) (s : ℕ) (u v : List ℕ) : Type 0 where
  pub first : IsGoalWord d rows goals s u
  pub second : IsGoalWord d rows goals s v
  pub one_length : length u ≡ length v
  pub ordered : IsLexBefore u v
  pub first_two : (w : List ℕ) → IsGoalWord d rows goals s w → length w ≡ length u → (w ≡ u) ⊎ ((w ≡ v) ⊎ IsLexBefore v w)
  pub least : (x y : List ℕ) → IsGoalWord d rows goals s x → IsGoalWord d rows goals s y → x ≢ y → length x ≡ length y → length u ≤ length x

-- a word of this length that leads from s to a goal
pub record HasWord (d : ℕ) (rows : List Row) (goals : List Bool) (s long : ℕ) : Type 0 where
  pub word : List ℕ
  pub goal : IsGoalWord d rows goals s word
  pub exact : length word ≡ long

-- two words of this length that lead from s to a goal
pub record HasPair (d : ℕ) (rows : List Row) (goals : List Bool) (s long : ℕ) : Type 0 where
  pub one : List ℕ
  pub other : List ℕ
  pub one_goal : IsGoalWord d rows goals s one
  pub other_goal : IsGoalWord d rows goals s other
  pub differ : one ≢ other
  pub one_exact : length one ≡ long
  pub other_exact : length other ≡ long

-- a row was entered with a letter; or it was there, and it is told whether it has another letter
abbrev pub IsEntered : List ℕ → List ℕ → List ℕ → ℕ → ℕ → Bool → List ℕ → List ℕ → List ℕ → Type 0
IsEntered set listed letters s x again set' listed' letters' =
    ((has_bit set s ≡ false) × (again ≡ false) × ((u : ℕ) → u < 1024 → has_bit set' u ≡ (has_bit set u || u == s)) × (listed' ≡ listed ++ s ∷ []) × (letters' ≡ slice_set letters s x))
    ⊎ ((has_bit set s ≡ true) × (set' ≡ set) × (listed' ≡ listed) × (letters' ≡ letters) × (again ≡ true → slice_index letters s ≢ x) × (again ≡ false → slice_index letters s ≡ x))

-- an edge leads to one of the first k rows of a list
abbrev pub IsToFirst : List Row → List Edge → List ℕ → ℕ → ℕ → Type 0
IsToFirst rows edges listed k e = (i : ℕ) × (i < k) × (i < length listed) × (target_at rows edges e ≡ slice_index listed i)

-- a layer for which the edges were looked at for which `done` holds: each of its rows has a word of this length, which
-- begins with its letter; a row has no second letter, unless the bound has come down to where it leads to two words
pub record IsPart (d : ℕ) (rows : List Row) (goals : List Bool) (values : List ℕ) (edges : List Edge) (long : ℕ) (done : ℕ → Type 0) (set listed letters : List ℕ) (bound : ℕ) : Type 0 where
  pub size : length letters ≡ length rows
  pub found : (u : ℕ) → u < length rows → has_bit set u ≡ true → (i : ℕ) × (i < length listed) × (slice_index listed i ≡ u)
  pub below : (i : ℕ) → i < length listed → (slice_index listed i < length rows) × (has_bit set (slice_index listed i) ≡ true)
  pub sound : (u : ℕ) → u < length rows → has_bit set u ≡ true → (w : List ℕ) × IsGoalWord d rows goals u (slice_index letters u ∷ w) × (length w + 1 ≡ long)
  pub taken : (e : ℕ) → e < length edges → done e → slice_index values (edge_at edges e).row + long ≤ bound
      → (has_bit set (edge_at edges e).row ≡ true) × ((slice_index letters (edge_at edges e).row ≡ (edge_at edges e).letter) ⊎ (bound ≤ slice_index values (edge_at edges e).row + long))

-- a bound came down, and then a row that is reached has two words of its length
pub record IsLowered (d : ℕ) (rows : List Row) (goals : List Bool) (from long old new : ℕ) : Type 0 where
  pub most : new ≤ old
  pub least : long ≤ new
  pub cause : (new ≡ old) ⊎ HasPair d rows goals from new

-- the rows of a list have words of this length
abbrev pub AreWithWords : ℕ → List Row → List Bool → List ℕ → ℕ → Type 0
AreWithWords d rows goals listed long = (i : ℕ) → i < length listed → (slice_index listed i < length rows) × HasWord d rows goals (slice_index listed i) long

-- the set of a length
abbrev pub set_at : List (List ℕ) → ℕ → List ℕ
set_at sets r = slice_index_or sets r []

-- each row of a set has a word of its length
abbrev pub AreSound : ℕ → List Row → List Bool → List (List ℕ) → Type 0
AreSound d rows goals sets = (r u : ℕ) → r < length sets → u < length rows → has_bit (set_at sets r) u ≡ true → HasWord d rows goals u r

-- the sets of the lengths so far, whole as far as words of the length of the bound pass through them
pub record AreLayers (d : ℕ) (rows : List Row) (goals : List Bool) (from : ℕ) (values : List ℕ) (sets : List (List ℕ)) (listed : List ℕ) (bound : ℕ) : Type 0 where
  pub some : 0 < length sets
  pub sound : AreSound d rows goals sets
  pub whole : (p w : List ℕ) → IsWord d p → IsGoalWord d rows goals (state_after (states_of rows) from p) w → length w < length sets
      → slice_index values (state_after (states_of rows) from p) + length w ≤ bound → has_bit (set_at sets (length w)) (state_after (states_of rows) from p) ≡ true
  pub parted : (p x y : List ℕ) (a b : ℕ) → IsWord d p → a ≢ b → IsGoalWord d rows goals (state_after (states_of rows) from p) (a ∷ x) → IsGoalWord d rows goals (state_after (states_of rows) from p) (b ∷ y)
      → length x ≡ length y → length x + 1 < length sets → bound ≤ slice_index values (state_after (states_of rows) from p) + (length x + 1)
  pub last : (u : ℕ) → u < length rows → has_bit (set_at sets (length sets - 1)) u ≡ true → (i : ℕ) × (i < length listed) × (slice_index listed i ≡ u)
  pub inside : AreWithWords d rows goals listed (length sets - 1)

-- the sets hold the rows through which pass the words of this length that lead from s to a goal
abbrev pub IsExact : ℕ → List Row → List Bool → List (List ℕ) → ℕ → ℕ → Type 0
IsExact d rows goals sets s left = (v w : List ℕ) → IsWord d v → IsGoalWord d rows goals (state_after (states_of rows) s v) w → length v + length w ≡ left → has_bit (set_at sets (length w)) (state_after (states_of rows) s v) ≡ true

-- sets for words of a length up to a bound: through them pass all words that lead from a row to a goal with as many letters
-- as there are sets behind the first. There are no two words of less letters, and two of so many if the bound came down
pub record AreFound (d : ℕ) (rows : List Row) (goals : List Bool) (from bound : ℕ) (sets : List (List ℕ)) : Type 0 where
  pub some : 0 < length sets
  pub most : length sets ≤ bound + 1
  pub sound : AreSound d rows goals sets
  pub exact : IsExact d rows goals sets from (length sets - 1)
  pub none : (x y : List ℕ) → IsGoalWord d rows goals from x → IsGoalWord d rows goals from y → x ≢ y → length x ≡ length y → length sets ≤ length x + 1
  pub cause : (length sets ≡ bound + 1) ⊎ HasPair d rows goals from (length sets - 1)

-- the least letter from a letter on that leads from a row into a set
pub record IsLeastLetter (d : ℕ) (rows : List Row) (set : List ℕ) (s least x : ℕ) : Type 0 where
  pub letter : IsLetter d x
  pub from : least ≤ x
  pub inside : has_bit set (next_state (states_of rows) s x) ≡ true
  pub first : (y : ℕ) → least ≤ y → y < x → IsLetter d y → has_bit set (next_state (states_of rows) s y) ≡ false

-- no letter from a letter on leads from a row into a set
abbrev pub IsNoLetter : ℕ → List Row → List ℕ → ℕ → ℕ → Type 0
IsNoLetter d rows set s least = (y : ℕ) → least ≤ y → IsLetter d y → has_bit set (next_state (states_of rows) s y) ≡ false

-- the first word of this length that leads from s to a goal
pub record IsFirstWord (d : ℕ) (rows : List Row) (goals : List Bool) (s left : ℕ) (e : List ℕ) : Type 0 where
  pub word : IsGoalWord d rows goals s e
  pub exact : length e ≡ left
  pub first : (w : List ℕ) → IsGoalWord d rows goals s w → length w ≡ left → (w ≡ e) ⊎ IsLexBefore e w

-- this word was appended
abbrev pub IsExtended : ℕ → List Row → List Bool → ℕ → ℕ → List ℕ → List ℕ → Type 0
IsExtended d rows goals s left old new = (e : List ℕ) × (new ≡ old ++ e) × IsFirstWord d rows goals s left e

-- the set and the list of the goals
pub record AreGoals (goals : List Bool) (set listed : List ℕ) : Type 0 where
  pub right : (u : ℕ) → u < length goals → has_bit set u ≡ is_marked goals u
  pub found : (u : ℕ) → u < length goals → is_marked goals u ≡ true → (i : ℕ) × (i < length listed) × (slice_index listed i ≡ u)
  pub inside : (i : ℕ) → i < length listed → (slice_index listed i < length goals) × (is_marked goals (slice_index listed i) ≡ true)

-- this is a length of a word to a goal, and no such word is shorter
pub record IsNearest (d : ℕ) (rows : List Row) (goals : List Bool) (s long : ℕ) : Type 0 where
  pub word : HasWord d rows goals s long
  pub least : (w : List ℕ) → IsGoalWord d rows goals s w → long ≤ length w

-- a letter greater than that of the word at a place leads on to a goal
pub record IsLater (d : ℕ) (rows : List Row) (sets : List (List ℕ)) (s : ℕ) (first : List ℕ) (place x : ℕ) : Type 0 where
  pub letter : IsLetter d x
  pub greater : slice_index first place < x
  pub inside : has_bit (set_at sets (length first - place - 1)) (next_state (states_of rows) (state_after (states_of rows) s (take place first)) x) ≡ true

-- a place before k, the last at which a greater letter leads on, with the least such letter and the row there
pub record IsBranch (d : ℕ) (rows : List Row) (sets : List (List ℕ)) (s : ℕ) (first : List ℕ) (k : ℕ) (b : Branch) : Type 0 where
  pub below : b.place < k
  pub row : b.row ≡ state_after (states_of rows) s (take b.place first)
  pub later : IsLater d rows sets s first b.place b.letter
  pub last : (i x : ℕ) → i < k → IsLater d rows sets s first i x → (i < b.place) ⊎ ((i ≡ b.place) × (b.letter ≤ x))

-- the last of the first k places of a word at which a greater letter leads on, with the least such letter and the row there
abbrev pub IsLastBranch : ℕ → List Row → List (List ℕ) → ℕ → List ℕ → ℕ → Option Branch → Type 0
IsLastBranch d rows sets s first k found = MatchOption found
    ((i x : ℕ) → i < k → ¬ IsLater d rows sets s first i x)
    (λ b. IsBranch d rows sets s first k b)

-- the second word of its length, behind the first
pub record IsSecondWord (d : ℕ) (rows : List Row) (goals : List Bool) (s : ℕ) (first w : List ℕ) : Type 0 where
  pub word : IsGoalWord d rows goals s w
  pub exact : length w ≡ length first
  pub ordered : IsLexBefore first w
  pub second : (v : List ℕ) → IsGoalWord d rows goals s v → length v ≡ length first → (v ≡ first) ⊎ ((v ≡ w) ⊎ IsLexBefore w v)
