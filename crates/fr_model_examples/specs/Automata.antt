-- Automata of well-known elements, and lists of states that only look like automata.
use Rattle.std.specs.Prelude.{ℕ, List, [], ◌∷◌}
use Rattle.fr_model.specs.Automata.{State}

-- the permutation and the next states of a state
abbrev pub state : List ℕ → List ℕ → State
state p n = record { perm = p; next = n }

-- the adding machine, and the identity
abbrev pub adding_states : List State
adding_states = state (2 ∷ 1 ∷ []) (1 ∷ 0 ∷ []) ∷ state (1 ∷ 2 ∷ []) (1 ∷ 1 ∷ []) ∷ []

-- the same two states, numbered the other way
abbrev pub adding_states_turned : List State
adding_states_turned = state (1 ∷ 2 ∷ []) (0 ∷ 0 ∷ []) ∷ state (2 ∷ 1 ∷ []) (0 ∷ 1 ∷ []) ∷ []

-- the same two states, and the identity once more
abbrev pub adding_states_and_spare : List State
adding_states_and_spare = state (2 ∷ 1 ∷ []) (1 ∷ 0 ∷ []) ∷ state (1 ∷ 2 ∷ []) (1 ∷ 1 ∷ []) ∷ state (1 ∷ 2 ∷ []) (2 ∷ 2 ∷ []) ∷ []

-- the inverse of the adding machine
abbrev pub adding_inverse_states : List State
adding_inverse_states = state (2 ∷ 1 ∷ []) (0 ∷ 1 ∷ []) ∷ state (1 ∷ 2 ∷ []) (1 ∷ 1 ∷ []) ∷ []

-- the swap of the first letter, and the identity
abbrev pub swap_states : List State
swap_states = state (2 ∷ 1 ∷ []) (1 ∷ 1 ∷ []) ∷ state (1 ∷ 2 ∷ []) (1 ∷ 1 ∷ []) ∷ []

-- the adding machine, then the swap; the identity; the adding machine
abbrev pub adding_then_swap_states : List State
adding_then_swap_states = state (1 ∷ 2 ∷ []) (1 ∷ 2 ∷ []) ∷ state (1 ∷ 2 ∷ []) (1 ∷ 1 ∷ []) ∷ state (2 ∷ 1 ∷ []) (1 ∷ 2 ∷ []) ∷ []

-- b of Grigorchuk's group, in canonical numbering: b, a, c, the identity, d
abbrev pub grigorchuk_states : List State
grigorchuk_states =
    state (1 ∷ 2 ∷ []) (1 ∷ 2 ∷ [])
    ∷ state (2 ∷ 1 ∷ []) (3 ∷ 3 ∷ [])
    ∷ state (1 ∷ 2 ∷ []) (1 ∷ 4 ∷ [])
    ∷ state (1 ∷ 2 ∷ []) (3 ∷ 3 ∷ [])
    ∷ state (1 ∷ 2 ∷ []) (3 ∷ 0 ∷ [])
    ∷ []

-- a = <a*a,1>(1,2): a, its square and the identity
abbrev pub doubling_states : List State
doubling_states = state (2 ∷ 1 ∷ []) (1 ∷ 2 ∷ []) ∷ state (1 ∷ 2 ∷ []) (1 ∷ 1 ∷ []) ∷ state (1 ∷ 2 ∷ []) (2 ∷ 2 ∷ []) ∷ []

-- the identity
abbrev pub identity_states : List State
identity_states = state (1 ∷ 2 ∷ []) (0 ∷ 0 ∷ []) ∷ []

-- a swap and an identity whose next states do not exist
abbrev pub swap_to_nowhere : List State
swap_to_nowhere = state (2 ∷ 1 ∷ []) (7 ∷ 7 ∷ []) ∷ []

abbrev pub identity_to_nowhere : List State
identity_to_nowhere = state (1 ∷ 2 ∷ []) (5 ∷ 5 ∷ []) ∷ []
