-- The canonical numbering of the sections of a term, as a breadth-first walk with letters in order meets them, and its
-- code. This project's own, on the pattern of the standard numbering of a minimal automaton.
use Rattle.std.specs.Prelude.{ℕ, suc, ◌≡◌, ◌<◌, List, [], ◌∷◌, ◌++◌, length, map, slice_index_or}
use Rattle.std.specs.List.{flat_map}
use Rattle.fr_model.specs.Words.{IsLetter, IsWord}
use Rattle.fr_model.specs.Permutations.{image}
use Rattle.fr_model.specs.Terms.{Term, Section, act, IsAlike}
use Rattle.fr_model.specs.Automata.{State, state_at, next_state, IsAutomaton}
use Rattle.fr_model.specs.Separation.{IsShortlexBefore}
use Rattle.fr_model.specs.Ranks.{rank}

-- no shortlex smaller word has a section that acts alike
pub record IsLeastWord (d : ℕ) (t : Term) (v : List ℕ) : Type 0 where
  pub valid : IsWord d v
  pub least : (w : List ℕ) → IsWord d w → IsShortlexBefore w v → ¬ IsAlike (Section t w) (Section t v)

-- the states are the sections at the least words, in shortlex order
pub record IsCanonical (d : ℕ) (t : Term) (qs : List State) : Type 0 where
  pub automaton : IsAutomaton d qs
  pub words : List (List ℕ)
  pub count : length words ≡ length qs
  pub least : (k : ℕ) → k < length words → IsLeastWord d t (slice_index_or words k [])
  pub ordered : (j k : ℕ) → j < k → k < length words → IsShortlexBefore (slice_index_or words j []) (slice_index_or words k [])
  pub whole : (v : List ℕ) → IsLeastWord d t v → (k : ℕ) × (k < length words) × (v ≡ slice_index_or words k [])
  pub outputs : (k x : ℕ) → k < length words → IsLetter d x → act (Section t (slice_index_or words k [])) (x ∷ []) ≡ image (state_at qs k).perm x ∷ []
  pub nexts : (k x : ℕ) → k < length words → IsLetter d x → IsAlike (Section t (slice_index_or words k [] ++ x ∷ [])) (Section t (slice_index_or words (next_state qs k x) []))

-- the code: for each state the rank of its permutation and the numbers of its next states, from 1
abbrev pub code_of : List State → List ℕ
code_of qs = flat_map (λ q. rank q.perm ∷ map suc q.next) qs

-- the code of a term over d letters
pub record IsCode (d : ℕ) (t : Term) (code : List ℕ) : Type 0 where
  pub states : List State
  pub canonical : IsCanonical d t states
  pub written : code ≡ code_of states
