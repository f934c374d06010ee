-- How many classes the valid values of a type fall into under a relation; sizes of terms and of pairs of terms. The size
-- is the number of states of the minimal automaton (Grigorchuk, Nekrashevych and Sushchanskii, Automata, dynamical
-- systems, and groups); the count of pairs is this project's own.
use Rattle.std.specs.Prelude.{ℕ, ◌≡◌, ◌<◌, ◌≤◌, List, length, slice_index_or}
use Rattle.std.specs.List.{All}
use Rattle.fr_model.specs.Words.{IsWord}
use Rattle.fr_model.specs.Terms.{Term, Section, act, IsAlike}

-- so many valid values, no two of them related, such that each valid value is related to one of them
pub record IsClassCount {A : Type 0} (Valid : A → Type 0) (Same : A → A → Type 0) (n : ℕ) : Type 0 where
  pub members : List A
  pub count : length members ≡ n
  pub valid : All Valid members
  pub apart : (i j : ℕ) (a : A) → i < j → j < length members → ¬ Same (slice_index_or members i a) (slice_index_or members j a)
  pub covers : (a : A) → Valid a → (i : ℕ) × (i < length members) × Same a (slice_index_or members i a)

-- more than n valid values, no two of them related
pub record HasMoreThan {A : Type 0} (Valid : A → Type 0) (Same : A → A → Type 0) (n : ℕ) : Type 0 where
  pub members : List A
  pub more : n < length members
  pub valid : All Valid members
  pub apart : (i j : ℕ) (a : A) → i < j → j < length members → ¬ Same (slice_index_or members i a) (slice_index_or members j a)

-- the list has one of each class of the valid values
pub record IsClassList {A : Type 0} (Valid : A → Type 0) (Same : A → A → Type 0) (members : List A) : Type 0 where
  pub valid : All Valid members
  pub apart : (i j : ℕ) (a : A) → i < j → j < length members → ¬ Same (slice_index_or members i a) (slice_index_or members j a)
  pub covers : (a : A) → Valid a → (i : ℕ) × (i < length members) × Same a (slice_index_or members i a)

-- the sections at two words act alike
abbrev pub SameSection : Term → List ℕ → List ℕ → Type 0
SameSection t v w = IsAlike (Section t v) (Section t w)

-- t has n sections, up to acting alike
abbrev pub IsSize : ℕ → Term → ℕ → Type 0
IsSize d t n = IsClassCount (IsWord d) (SameSection t) n

-- t has more than n sections, no two of which act alike
abbrev pub HasMoreStates : ℕ → Term → ℕ → Type 0
HasMoreStates d t n = HasMoreThan (IsWord d) (SameSection t) n

-- the pairs of sections at two words, of t at the word and of u at its image under t, act alike
abbrev pub SamePair : Term → Term → List ℕ → List ℕ → Type 0
SamePair t u v w = SameSection t v w × IsAlike (Section u (act t v)) (Section u (act t w))

-- n such pairs, up to acting alike
abbrev pub IsPairCount : ℕ → Term → Term → ℕ → Type 0
IsPairCount d t u n = IsClassCount (IsWord d) (SamePair t u) n

-- at most 65,536 such pairs, up to acting alike
abbrev pub HasFewPairs : ℕ → Term → Term → Type 0
HasFewPairs d t u = (n : ℕ) × (n ≤ 65536) × IsPairCount d t u n

-- more than n such pairs, no two of which act alike
abbrev pub HasMorePairs : ℕ → Term → Term → ℕ → Type 0
HasMorePairs d t u n = HasMoreThan (IsWord d) (SamePair t u) n
