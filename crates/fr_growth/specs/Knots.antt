-- A search for components, which goes along a path of rows and draws a piece of it together where a letter leads back
-- (Gabow, Path-based depth-first search for strong and biconnected components). The pieces, which are called knots, stand
-- one behind the other, and are named by the places where they begin.
use Rattle.std.specs.Prelude.{ℕ, ◌≡◌, ◌<◌, ◌≤◌, ◌+◌, ◌-◌, ◌⊎◌, List, length, slice_index, min}
use Rattle.std.specs.List.{sum_by}
use Rattle.fr_model.specs.Words.{IsLetter}
use Rattle.fr_model.specs.Automata.{next_state, IsReached}
use Rattle.fr_machine.specs.declared.row.Row.{Row}
use Rattle.fr_machine.specs.Rows.{states_of}
use Rattle.fr_growth.specs.declared.knots.Descent.{Descent}

-- in place of a place or a number that a row has not
abbrev pub nowhere : ℕ
nowhere = 65535

-- the last number of a list
abbrev pub last_of : List ℕ → ℕ
last_of xs = slice_index xs (length xs - 1)

-- a number of a list
abbrev pub IsListed : List ℕ → ℕ → Type 0
IsListed xs a = (j : ℕ) × (j < length xs) × (slice_index xs j ≡ a)

-- the numbers of a list rise, and are all below n
pub record AreRising (n : ℕ) (xs : List ℕ) : Type 0 where
  pub below : (i : ℕ) → i < length xs → slice_index xs i < n
  pub rising : (i j : ℕ) → i < j → j < length xs → slice_index xs i < slice_index xs j

-- the rows of a path and their places
pub record IsPath (n : ℕ) (path places : List ℕ) : Type 0 where
  pub size : length places ≡ n
  pub row : (a : ℕ) → a < length path → slice_index path a < n
  pub there : (a : ℕ) → a < length path → slice_index places (slice_index path a) ≡ a
  pub back : (u : ℕ) → u < n → slice_index places u < length path → slice_index path (slice_index places u) ≡ u

-- the place b is in the knot of the place a, or in a later one
abbrev pub IsBehind : List ℕ → ℕ → ℕ → Type 0
IsBehind bounds a b = (i : ℕ) → i < length bounds → slice_index bounds i ≤ a → slice_index bounds i ≤ b

-- the knots of a path: each leads to itself and to the later ones
pub record AreKnots (d : ℕ) (rows : List Row) (path bounds : List ℕ) : Type 0 where
  pub begins : AreRising (length path) bounds
  pub first : 0 < length path → (0 < length bounds) × (slice_index bounds 0 ≡ 0)
  pub linked : (a b : ℕ) → a < length path → b < length path → IsBehind bounds a b → IsReached d (states_of rows) (slice_index path a) (slice_index path b)

-- the places whose rows have letters that were not looked at, and where the knots begin
pub record IsWalk (d : ℕ) (path bounds walk letters : List ℕ) : Type 0 where
  pub places : AreRising (length path) walk
  pub whole : (a : ℕ) → a < length path → slice_index letters (slice_index path a) ≤ d → IsListed walk a
  pub begins : (i : ℕ) → i < length bounds → IsListed walk (slice_index bounds i)

-- a row was not met, or is on the path, or has its number
abbrev pub IsNew : List ℕ → List ℕ → List ℕ → ℕ → Type 0
IsNew places numbers letters u = (slice_index letters u ≡ 0) × (slice_index places u ≡ nowhere) × (slice_index numbers u ≡ nowhere)

abbrev pub IsOnPath : List ℕ → List ℕ → List ℕ → List ℕ → ℕ → Type 0
IsOnPath path places numbers letters u = (1 ≤ slice_index letters u) × (slice_index places u < length path) × (slice_index numbers u ≡ nowhere)

abbrev pub IsDone : List ℕ → List ℕ → List ℕ → ℕ → ℕ → Type 0
IsDone places numbers letters count u = (1 ≤ slice_index letters u) × (slice_index places u ≡ nowhere) × (slice_index numbers u < count)

pub record AreMet (d n : ℕ) (path places numbers letters : List ℕ) (count : ℕ) : Type 0 where
  pub numbers_size : length numbers ≡ n
  pub letters_size : length letters ≡ n
  pub cases : (u : ℕ) → u < n → IsNew places numbers letters u ⊎ IsOnPath path places numbers letters u ⊎ IsDone places numbers letters count u

-- the row t has its number, or is in the knot of the place a or in a later one
abbrev pub IsSettled : List ℕ → List ℕ → List ℕ → List ℕ → ℕ → ℕ → ℕ → Type 0
IsSettled path bounds places numbers count a t = (slice_index numbers t < count) ⊎ ((slice_index places t < length path) × IsBehind bounds a (slice_index places t))

-- letters that were looked at lead to no earlier knot
abbrev pub AreLooked : ℕ → List Row → List ℕ → List ℕ → List ℕ → List ℕ → List ℕ → ℕ → Type 0
AreLooked d rows path bounds places numbers letters count =
    (a x : ℕ) → a < length path → IsLetter d x → x < slice_index letters (slice_index path a) → IsSettled path bounds places numbers count a (next_state (states_of rows) (slice_index path a) x)

-- the rows that have their number, which are closed under going on
pub record AreNumbered (d : ℕ) (rows : List Row) (numbers order : List ℕ) (count : ℕ) : Type 0 where
  pub falls : (u x : ℕ) → u < length rows → slice_index numbers u < count → IsLetter d x → slice_index numbers (next_state (states_of rows) u x) ≤ slice_index numbers u
  pub joined : (u v : ℕ) → u < length rows → v < length rows → slice_index numbers u < count → slice_index numbers u ≡ slice_index numbers v → IsReached d (states_of rows) u v
  pub ordered : (i : ℕ) → i < length order → (slice_index order i < length rows) × (slice_index numbers (slice_index order i) < count)
  pub whole : (u : ℕ) → u < length rows → slice_index numbers u < count → IsListed order u
  pub rising : (i j : ℕ) → i < j → j < length order → slice_index numbers (slice_index order i) ≤ slice_index numbers (slice_index order j)

-- how many rows were met
abbrev pub met_rows : List ℕ → ℕ
met_rows letters = sum_by (λ x. min x 1) letters

-- the state of a descent
pub record IsDescent (d : ℕ) (rows : List Row) (descent : Descent) : Type 0 where
  pub path : IsPath (length rows) descent.path.items descent.places.items
  pub knots : AreKnots d rows descent.path.items descent.bounds.items
  pub walk : IsWalk d descent.path.items descent.bounds.items descent.walk.items descent.letters.items
  pub met : AreMet d (length rows) descent.path.items descent.places.items descent.numbers.items descent.letters.items descent.count
  pub looked : AreLooked d rows descent.path.items descent.bounds.items descent.places.items descent.numbers.items descent.letters.items descent.count
  pub numbered : AreNumbered d rows descent.numbers.items descent.order.items descent.count
  pub few : descent.count + length descent.path.items ≤ met_rows descent.letters.items
  pub listed : length descent.order.items + length descent.path.items ≡ met_rows descent.letters.items

-- what is left to do: each letter of each row is looked at once, and each row is left once
abbrev pub work : ℕ → Descent → ℕ
work d descent = sum_by (λ x. d + 1 - x) descent.letters.items + length descent.walk.items

-- the rows at the places from begin up to i of a path got a number
pub record IsNumbering (n : ℕ) (path : List ℕ) (begin i count : ℕ) (places numbers order places' numbers' order' : List ℕ) : Type 0 where
  pub places_size : length places' ≡ length places
  pub numbers_size : length numbers' ≡ length numbers
  pub given : (u : ℕ) → u < n → begin ≤ slice_index places u → slice_index places u < i → (slice_index places' u ≡ nowhere) × (slice_index numbers' u ≡ count)
  pub kept : (u : ℕ) → u < n → (slice_index places u < begin) ⊎ (i ≤ slice_index places u) → (slice_index places' u ≡ slice_index places u) × (slice_index numbers' u ≡ slice_index numbers u)
  pub longer : length order' ≡ length order + (i - begin)
  pub front : (j : ℕ) → j < length order → slice_index order' j ≡ slice_index order j
  pub added : (a : ℕ) → begin ≤ a → a < i → slice_index order' (length order + (a - begin)) ≡ slice_index path a
