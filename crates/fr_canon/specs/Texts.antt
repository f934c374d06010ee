-- The text of a machine, which lists its states in order: this project's own.
use Rattle.std.specs.Prelude.{ℕ, suc, ◌≡◌, List, [], ◌∷◌, ◌++◌, length, map, codes}
use Rattle.std.specs.List.{join_with_byte}
use Rattle.std.specs.Fmt.{decimal}
use Rattle.fr_model.specs.Permutations.{IsPermutation}
use Rattle.fr_model.specs.Automata.{State}
use Rattle.fr_model.specs.Ranks.{rank}
use Rattle.fr_alphabet.specs.Cycles.{cycles_text}

-- numbers with commas (44) between them
abbrev pub numbers_text : List ℕ → List ℕ
numbers_text ns = join_with_byte 44 (map decimal ns)

-- a state as `<2,3>(1,2)`: the numbers of its next states, from 1, and the cycles of its permutation
unfoldable pub wreath_text : State → List ℕ
wreath_text q = 60 ∷ numbers_text (map suc q.next) ++ 62 ∷ cycles_text q.perm

-- a state with its number, as `1 = <2,3>(1,2)`
unfoldable pub state_line : ℕ → State → List ℕ
state_line k q = decimal k ++ codes " = " ++ wreath_text q

-- the same with a newline (10)
abbrev pub state_text : ℕ → State → List ℕ
state_text k q = state_line k q ++ 10 ∷ []

-- states that are numbered from k on, a line each
abbrev pub states_text : ℕ → List State → List ℕ
states_text k [] = []
states_text k (q ∷ qs) = state_text k q ++ states_text (suc k) qs

-- the number of states, as `states 2`
abbrev pub count_line : ℕ → List ℕ
count_line n = codes "states " ++ decimal n

-- the same with a newline
abbrev pub count_text : ℕ → List ℕ
count_text n = count_line n ++ 10 ∷ []

-- the number of states, and the states
abbrev pub machine_text : List State → List ℕ
machine_text qs = count_text (length qs) ++ states_text 1 qs

-- the part of a code that stands for a state over d letters
pub record IsStateCode (d : ℕ) (numbers : List ℕ) (q : State) : Type 0 where
  pub permutes : IsPermutation d q.perm
  pub arity : length q.next ≡ d
  pub written : numbers ≡ rank q.perm ∷ map suc q.next
