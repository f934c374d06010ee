-- The law of codes as a function.
use Rattle.std.specs.Prelude.{ℕ, ◌<◌, ◌≤◌, List, length}
use Rattle.fr_model.specs.Terms.{IsAlike}
use Rattle.fr_model.specs.Automata.{State, state_term, IsAutomaton}
use Rattle.fr_model.specs.Canonical.{IsCode}
use Rattle.fr_canon.specs.Walked.{state_code}

-- no two states act alike
abbrev pub AreApart : List State → Type 0
AreApart qs = (s t : ℕ) → s < t → t < length qs → ¬ IsAlike (state_term qs s) (state_term qs t)

-- what a walk from a state of an automaton lists is the code of the state, where no two of at most 1,024 states act alike
abbrev pub StatesHaveCodes : Type 0
StatesHaveCodes = (d : ℕ) (qs : List State) (s : ℕ) → 2 ≤ d → d ≤ 8 → IsAutomaton d qs → length qs ≤ 1024 → AreApart qs → s < length qs → IsCode d (state_term qs s) (state_code d qs s)
