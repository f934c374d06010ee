-- The two letters, their permutations, short words, and the automaton of the adding machine.
use Rattle.std.proofs.Common.{ℕ, zero, suc, ◌≡◌, ◌<◌, ◌⊎◌, inl, inr, List, [], ◌∷◌, length, refl, ap, arith}
use Rattle.std.specs.List.{IsDistinct}
use Rattle.std.proofs.lemmas.List.Elements.{All-from_recursion}
use Rattle.fr_model.specs.Words.{IsLetter, IsWord}
use Rattle.fr_model.specs.Permutations.{IsPermutation}
use Rattle.fr_model.specs.Automata.{IsState, IsAutomaton}
use Rattle.fr_model.specs.Separation.{IsShortlexBefore}
use Rattle.fr_model_examples.specs.Automata.{adding_states}

pub swap : IsPermutation 2 (2 ∷ 1 ∷ [])
unfolding IsDistinct
swap = record { degree = refl; letters = ((omega arith, omega arith), ((omega arith, omega arith), tt)); distinct = ((refl, tt), (tt, tt)) }

pub stay : IsPermutation 2 (1 ∷ 2 ∷ [])
unfolding IsDistinct
stay = record { degree = refl; letters = ((omega arith, omega arith), ((omega arith, omega arith), tt)); distinct = ((refl, tt), (tt, tt)) }

pub one : IsWord 2 (1 ∷ [])
one = ((omega arith, omega arith), tt)

pub letter_cases : (x : ℕ) → IsLetter 2 x → (x ≡ 1) ⊎ (x ≡ 2)
letter_cases zero h = absurd (omega (arith, h.0))
letter_cases (suc zero) h = inl refl
letter_cases (suc (suc zero)) h = inr refl
letter_cases (suc (suc (suc k))) h = absurd (omega (arith, h.1))

pub two : IsWord 2 (2 ∷ [])
two = ((omega arith, omega arith), tt)

-- a number below 2
pub two_cases : (s : ℕ) → s < 2 → (s ≡ 0) ⊎ (s ≡ 1)
two_cases zero h = inl refl
two_cases (suc zero) h = inr refl
two_cases (suc (suc k)) h = absurd (omega arith)

pub nothing_before : (w : List ℕ) → IsShortlexBefore w [] → ⊥
nothing_before w (inl h) = omega arith
nothing_before [] (inr h) = h.1
nothing_before (x ∷ w) (inr h) = h.1

-- words of twos
unfoldable pub twos : ℕ → List ℕ
twos zero = []
twos (suc n) = 2 ∷ twos n

pub twos_word : (n : ℕ) → IsWord 2 (twos n)
unfolding twos
twos_word zero = tt
twos_word (suc n) = ((omega arith, omega arith), twos_word n)

pub length-twos : (n : ℕ) → length (twos n) ≡ n
unfolding twos
length-twos zero = refl
length-twos (suc n) = ap suc (length-twos n)

-- ---- automata
pub IsAutomaton-adding : IsAutomaton 2 adding_states
IsAutomaton-adding = All-from_recursion (IsState 2 2) adding_states (
  record { permutes = swap; arity = refl; below = All-from_recursion (λ n. n < 2) (1 ∷ 0 ∷ []) (omega arith, (omega arith, tt)) },
  (record { permutes = stay; arity = refl; below = All-from_recursion (λ n. n < 2) (1 ∷ 1 ∷ []) (omega arith, (omega arith, tt)) }, tt),
)
