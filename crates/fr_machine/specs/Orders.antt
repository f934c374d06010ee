-- Words for the keys of a walk, in the order in which the walk meets the keys.
use Rattle.std.specs.Prelude.{ℕ, ◌≡◌, ◌<◌, ◌⊎◌, List, [], ◌∷◌, ◌++◌, length, slice_index, slice_index_or}
use Rattle.fr_model.specs.Words.{IsLetter, IsWord}
use Rattle.fr_model.specs.Separation.{IsShortlexBefore}
use Rattle.fr_machine.specs.Walks.{walk_after}

-- the same word or one before
abbrev pub UpTo : List ℕ → List ℕ → Type 0
UpTo v w = (v ≡ w) ⊎ IsShortlexBefore v w

-- the word of key i
abbrev pub word_at : List (List ℕ) → ℕ → List ℕ
word_at ws i = slice_index_or ws i []

-- a letter of a key whose turn is over, where letter x of key j is next
abbrev pub Over : ℕ → ℕ → ℕ → ℕ → Type 0
Over j x i y = (i < j) ⊎ ((i ≡ j) × (y < x))

-- words for the keys, in order; x is the letter of key j that is next
pub record IsOrdered (d : ℕ) (step : ℕ → ℕ → ℕ) (start : ℕ) (keys : List ℕ) (words : List (List ℕ)) (j x : ℕ) : Type 0 where
  pub count : length words ≡ length keys
  pub some : 0 < length keys
  pub none : word_at words 0 ≡ []
  pub valid : (i : ℕ) → i < length keys → IsWord d (word_at words i)
  pub own : (i : ℕ) → i < length keys → walk_after step start (word_at words i) ≡ slice_index keys i
  pub ascending : (i k : ℕ) → i < k → k < length keys → IsShortlexBefore (word_at words i) (word_at words k)
  pub made : (i : ℕ) → i < length keys → (word_at words i ≡ []) ⊎ ((h y : ℕ) × (h < length keys) × (word_at words i ≡ word_at words h ++ y ∷ []) × Over j x h y)
  pub met : (i y : ℕ) → i < length keys → IsLetter d y → Over j x i y → (k : ℕ) × (k < length keys) × (slice_index keys k ≡ step (slice_index keys i) y)
  pub passed : (i y k : ℕ) → i < length keys → IsLetter d y → Over j x i y → k < length keys → slice_index keys k ≡ step (slice_index keys i) y → UpTo (word_at words k) (word_at words i ++ y ∷ [])
