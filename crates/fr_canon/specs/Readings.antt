-- How a text is read as a machine: which texts are accepted, and which fault a text has, and at which line. The text is
-- that of specs/Texts. This project's own.
use Rattle.std.specs.Prelude.{ℕ, suc, ◌≡◌, ◌≢◌, ◌<◌, ◌≤◌, ◌+◌, max, Bool, true, not, ◌&&◌, ◌==◌, List, [], ◌∷◌, ◌++◌, length, take, slice_index}
use Rattle.std.specs.List.{All, Contains, flat_map}
use Rattle.fr_model.specs.Terms.{IsAlike}
use Rattle.fr_model.specs.Automata.{State, state_at, state_term, IsState, IsAutomaton}
use Rattle.fr_canon.specs.declared.fault.ReadFault.{ReadFault}
use Rattle.fr_canon.specs.declared.fault.ReadFault.TheVariants.{Syntax, NotCanonical, NoMemory}
use Rattle.fr_canon.specs.Texts.{count_text, state_text, states_text, machine_text}

-- ---- lines that are not of their form

-- the text begins with the line of n states and with the lines of the first of them, and then the rest comes
pub record BeginsWith (d n : ℕ) (text : List ℕ) (qs : List State) (rest : List ℕ) : Type 0 where
  pub some : 1 ≤ n
  pub few : n ≤ 1024
  pub within : length qs ≤ n
  pub states : All (IsState d n) qs
  pub written : text ≡ count_text n ++ (states_text 1 qs ++ rest)

-- no line of a number of states comes first
abbrev pub HasNoCount : List ℕ → Type 0
HasNoCount text = (n : ℕ) (rest : List ℕ) → 1 ≤ n → n ≤ 1024 → text ≢ count_text n ++ rest

-- no line of state k of n states comes first
abbrev pub HasNoState : ℕ → ℕ → ℕ → List ℕ → Type 0
HasNoState d n k text = (q : State) (rest : List ℕ) → IsState d n q → text ≢ state_text k q ++ rest

-- the first line that is not of its form: that of the number of states, that of a state, or one that is left over
pub data IsSyntaxFault (d : ℕ) (text : List ℕ) (line : ℕ) : Type 0 where
  at_count : HasNoCount text → line ≡ 1 → IsSyntaxFault d text line
  at_state : (n : ℕ) (qs : List State) (rest : List ℕ) → BeginsWith d n text qs rest → length qs < n → HasNoState d n (length qs + 1) rest → line ≡ length qs + 2 → IsSyntaxFault d text line
  at_rest : (n : ℕ) (qs : List State) (rest : List ℕ) → BeginsWith d n text qs rest → length qs ≡ n → rest ≢ [] → line ≡ n + 2 → IsSyntaxFault d text line

-- ---- states that are numbered as a walk meets them

-- the text of 1 to 1,024 states over d letters
pub record IsMachineText (d : ℕ) (qs : List State) (text : List ℕ) : Type 0 where
  pub automaton : IsAutomaton d qs
  pub some : 1 ≤ length qs
  pub few : length qs ≤ 1024
  pub written : text ≡ machine_text qs

-- the states that are met before state k: the first one, and the next states of the earlier ones
abbrev pub met_before : List State → ℕ → List ℕ
met_before qs k = 0 ∷ flat_map (λ q. q.next) (take k qs)

-- the greatest of the numbers
abbrev pub greatest : List ℕ → ℕ
greatest [] = 0
greatest (x ∷ xs) = max x (greatest xs)

-- state k was met before, and none of its next states is more than one above the greatest met so far
pub record IsInOrder (qs : List State) (k : ℕ) : Type 0 where
  pub met : Contains (met_before qs k) k
  pub nexts : (y : ℕ) → y < length (state_at qs k).next → slice_index (state_at qs k).next y ≤ suc (greatest (met_before qs k ++ take y (state_at qs k).next))

-- state k is the first that is not
pub record IsFirstOutOfOrder (qs : List State) (k : ℕ) : Type 0 where
  pub state : k < length qs
  pub earlier : (j : ℕ) → j < k → IsInOrder qs j
  pub fault : ¬ IsInOrder qs k

-- an earlier state acts like state k
pub record IsRepeated (qs : List State) (k : ℕ) : Type 0 where
  pub earlier : ℕ
  pub before : earlier < k
  pub alike : IsAlike (state_term qs earlier) (state_term qs k)

-- all states are in order, and state k is the first that acts like an earlier one
pub record IsFirstRepeated (qs : List State) (k : ℕ) : Type 0 where
  pub state : k < length qs
  pub order : (j : ℕ) → j < length qs → IsInOrder qs j
  pub earlier : (j : ℕ) → j < k → ¬ IsRepeated qs j
  pub repeated : IsRepeated qs k

-- the line of the first state that is out of order; where there is none, that of the first that acts like an earlier one
pub data IsOrderFault (d : ℕ) (text : List ℕ) (line : ℕ) : Type 0 where
  out_of_order : (qs : List State) (k : ℕ) → IsMachineText d qs text → IsFirstOutOfOrder qs k → line ≡ k + 2 → IsOrderFault d text line
  repeated : (qs : List State) (k : ℕ) → IsMachineText d qs text → IsFirstRepeated qs k → line ≡ k + 2 → IsOrderFault d text line

-- the fault of a text; want of memory is none
abbrev pub IsReadFault : ℕ → List ℕ → ReadFault → Type 0
IsReadFault d text (Syntax line) = IsSyntaxFault d text line
IsReadFault d text (NotCanonical line) = IsOrderFault d text line
IsReadFault d text NoMemory = ⊥

-- ---- the pieces of a text

-- the byte does not stand in the text
abbrev pub free : ℕ → List ℕ → Bool
free c [] = true
free c (x ∷ u) = not (x == c) && free c u

abbrev pub Free : ℕ → List ℕ → Type 0
Free c u = free c u ≡ true

-- next states below n in eight places: d of them, and zeros after them
pub record IsNextTable (d n : ℕ) (next : List ℕ) : Type 0 where
  pub width : length next ≡ 8
  pub below : All (λ m. m < n) next
  pub zeros : (y : ℕ) → d ≤ y → y < 8 → slice_index next y ≡ 0
