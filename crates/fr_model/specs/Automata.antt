-- Invertible automata: systems in which each section is one name (Nekrashevych, Self-Similar Groups, chapter 1;
-- Grigorchuk, Nekrashevych and Sushchanskii, Automata, dynamical systems, and groups).
use Rattle.std.specs.Prelude.{ℕ, zero, suc, ◌≡◌, ◌≢◌, ◌<◌, false, List, [], ◌∷◌, length, map, slice_index_or}
use Rattle.std.specs.List.{All}
use Rattle.fr_model.specs.Words.{IsWord}
use Rattle.fr_model.specs.Permutations.{IsPermutation}
use Rattle.fr_model.specs.Systems.{Factor, Wreath, System}
use Rattle.fr_model.specs.Terms.{Term, Name}

-- a state: the permutation that it puts out, and the next state at each letter
pub record State : Type 0 where
  pub perm : List ℕ
  pub next : List ℕ

-- the state of a number
abbrev pub state_at : List State → ℕ → State
state_at qs s = slice_index_or qs s (record { perm = []; next = [] })

-- the next state at a letter; a number that is no letter leads nowhere
abbrev pub next_state : List State → ℕ → ℕ → ℕ
next_state qs s zero = s
next_state qs s (suc k) = slice_index_or (state_at qs s).next k s

-- the state behind a word
abbrev pub state_after : List State → ℕ → List ℕ → ℕ
state_after qs s [] = s
state_after qs s (x ∷ v) = state_after qs (next_state qs s x) v

-- the product of one name
abbrev pub one_name : ℕ → List Factor
one_name n = record { name = n; inverse = false } ∷ []

-- a state as a recursion: each section is the next state there
abbrev pub wreath_of : State → Wreath
wreath_of q = record { perm = q.perm; sections = map one_name q.next }

-- an automaton as a system, whose names are the states
abbrev pub system_of : List State → System
system_of qs = map wreath_of qs

-- a state as a term
unfoldable pub state_term : List State → ℕ → Term
state_term qs s = Name (system_of qs) s

-- a state of an automaton over d letters with so many states
pub record IsState (d states : ℕ) (q : State) : Type 0 where
  pub permutes : IsPermutation d q.perm
  pub arity : length q.next ≡ d
  pub below : All (λ n. n < states) q.next

-- an automaton over d letters
abbrev pub IsAutomaton : ℕ → List State → Type 0
IsAutomaton d qs = All (IsState d (length qs)) qs

-- some word over d letters leads from s to r
pub record IsReached (d : ℕ) (qs : List State) (s r : ℕ) : Type 0 where
  pub along : List ℕ
  pub valid : IsWord d along
  pub there : state_after qs s along ≡ r

-- a state that some word leads to from a state on a cycle
pub record IsLimitState (d : ℕ) (qs : List State) (r : ℕ) : Type 0 where
  pub on : ℕ
  pub state : on < length qs
  pub round : List ℕ
  pub round_valid : IsWord d round
  pub some : round ≢ []
  pub back : state_after qs on round ≡ on
  pub reached : IsReached d qs on r

-- a state that some word leads to from a state on a cycle, to which some word leads from s
pub record IsLimitStateFrom (d : ℕ) (qs : List State) (s r : ℕ) : Type 0 where
  pub on : ℕ
  pub way : IsReached d qs s on
  pub round : List ℕ
  pub round_valid : IsWord d round
  pub some : round ≢ []
  pub back : state_after qs on round ≡ on
  pub reached : IsReached d qs on r
