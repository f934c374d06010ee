-- The search for a word that tells two rows apart: pairs of rows that words lead to, in the order of the words. A pair is left
-- out where what is the same in each pair that was met is the same in this one (Hopcroft and Karp, A linear algorithm for
-- testing the equivalence of finite automata).
use Rattle.std.specs.Prelude.{ℕ, ◌≡◌, ◌≢◌, ◌<◌, ◌≤◌, ◌+◌, ◌⊎◌, List, [], ◌∷◌, ◌++◌, length, slice_index_or}
use Rattle.fr_model.specs.Words.{IsLetter, IsWord}
use Rattle.fr_model.specs.Permutations.{image}
use Rattle.fr_model.specs.Automata.{State, next_state, state_after}
use Rattle.fr_model.specs.Separation.{IsShortlexBefore}
use Rattle.fr_minimal.specs.declared.met.Met.{Met}

-- the permutations have the same image at each letter below x
abbrev pub AgreeBelow : ℕ → List ℕ → List ℕ → ℕ → Type 0
AgreeBelow d p q x = (y : ℕ) → IsLetter d y → y < x → image p y ≡ image q y

-- x is the least letter that the permutations send to different letters
pub record IsLeastDifference (d : ℕ) (p q : List ℕ) (x : ℕ) : Type 0 where
  pub letter : IsLetter d x
  pub differs : image p x ≢ image q x
  pub least : AgreeBelow d p q x

-- the pair that was met at a place, and how it was met
abbrev pub met_at : List Met → ℕ → Met
met_at met i = slice_index_or met i (record { left = 0; right = 0; before = 0; letter = 0 })

-- the rows of the pairs that were met are rows of the machines
abbrev pub AreInside : ℕ → ℕ → List Met → Type 0
AreInside left_rows rows met = (i : ℕ) → i < length met → ((met_at met i).left < left_rows) × (left_rows + (met_at met i).right < rows)

-- an image for each row of both machines, those of the right one behind so many of the left one, is the same in each pair
-- that was met
abbrev pub AgreeOnMet : ℕ → List Met → (ℕ → List ℕ) → Type 0
AgreeOnMet left_rows met images = (i : ℕ) → i < length met → images (met_at met i).left ≡ images (left_rows + (met_at met i).right)

-- what is the same in each pair that was met is the same in this one
abbrev pub AreJoined : ℕ → List Met → ℕ → ℕ → Type 0
AreJoined left_rows met left right = (images : ℕ → List ℕ) → AgreeOnMet left_rows met images → images left ≡ images (left_rows + right)

-- a pair is met: it was joined and nothing changes, or it stands last from now on
abbrev pub IsMeeting : ℕ → List Met → List Met → Met → Type 0
IsMeeting left_rows met met' new = (AreJoined left_rows met new.left new.right × (met' ≡ met)) ⊎ (met' ≡ met ++ new ∷ [])

-- each pair but the first was met behind one that stands before it
abbrev pub IsLinked : List Met → Type 0
IsLinked met = (i : ℕ) → 0 < i → i < length met → (met_at met i).before < i

-- the word of a place
abbrev pub word_at : List (List ℕ) → ℕ → List ℕ
word_at words i = slice_index_or words i []

-- words that lead to the pairs that were met: to the first the empty word, to each other that of the pair before it and a letter
pub record AreWords (met : List Met) (words : List (List ℕ)) : Type 0 where
  pub none : word_at words 0 ≡ []
  pub more : (i : ℕ) → 0 < i → i < length met → word_at words i ≡ word_at words (met_at met i).before ++ (met_at met i).letter ∷ []

-- an image for each row is the same in each pair that was met by a word up to this one
abbrev pub AgreeUpTo : ℕ → List Met → List (List ℕ) → List ℕ → (ℕ → List ℕ) → Type 0
AgreeUpTo left_rows met words w images = (i : ℕ) → i < length met → (word_at words i ≡ w) ⊎ IsShortlexBefore (word_at words i) w → images (met_at met i).left ≡ images (left_rows + (met_at met i).right)

-- what is the same in these is the same in this pair
abbrev pub AreJoinedBy : ℕ → List Met → List (List ℕ) → List ℕ → ℕ → ℕ → Type 0
AreJoinedBy left_rows met words w left right = (images : ℕ → List ℕ) → AgreeUpTo left_rows met words w images → images left ≡ images (left_rows + right)

-- words lead from s and t to the pairs that were met, in shortlex order, where letter x of the pair at place j is next; the
-- pair behind each letter whose turn is over is joined by pairs of words up to its own
pub record IsSearched (d : ℕ) (ps qs : List State) (s t : ℕ) (met : List Met) (j x : ℕ) : Type 0 where
  pub words : List (List ℕ)
  pub count : length words ≡ length met
  pub some : 0 < length met
  pub spelled : AreWords met words
  pub linked : IsLinked met
  pub valid : (i : ℕ) → i < length met → IsWord d (word_at words i)
  pub short : (i : ℕ) → i < length met → length (word_at words i) ≤ i
  pub left : (i : ℕ) → i < length met → state_after ps s (word_at words i) ≡ (met_at met i).left
  pub right : (i : ℕ) → i < length met → state_after qs t (word_at words i) ≡ (met_at met i).right
  pub ascending : (i k : ℕ) → i < k → k < length met → IsShortlexBefore (word_at words i) (word_at words k)
  pub before : (i : ℕ) → i < length met → j < length met → IsShortlexBefore (word_at words i) (word_at words j ++ x ∷ [])
  pub joined : (i y : ℕ) → i < length met → IsLetter d y → (i < j) ⊎ ((i ≡ j) × (y < x)) → AreJoinedBy (length ps) met words (word_at words i ++ y ∷ []) (next_state ps (met_at met i).left y) (next_state qs (met_at met i).right y)

-- pairs that were met stay in their places
abbrev pub StayMet : List Met → List Met → Type 0
StayMet met met' = (length met ≤ length met') × ((i : ℕ) → i < length met → met_at met' i ≡ met_at met i)
