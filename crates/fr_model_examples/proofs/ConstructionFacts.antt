-- Automata of section words, of an inverse and of a product.
use Rattle.std.proofs.Common.{ℕ, zero, suc, ◌≡◌, ◌<◌, ◌≤◌, inl, inr, List, [], ◌∷◌, length, get_or, refl, ap, arith}
use Rattle.std.specs.Prelude.{slice_index}
use Rattle.std.proofs.lemmas.List.Elements.{All-from_recursion}
use Rattle.fr_model.specs.Words.{IsLetter}
use Rattle.fr_model.specs.Permutations.{image, preimage}
use Rattle.fr_model.specs.Systems.{Factor, product_output, product_section}
use Rattle.fr_model.specs.Automata.{state_at, next_state, IsState, IsAutomaton}
use Rattle.fr_model.specs.FreeWords.{reduced}
use Rattle.fr_model.specs.Constructions.{IsClosure, IsNameAutomaton}
use Rattle.fr_model.proofs.AutomatonLaws.{state_is}
use Rattle.fr_model.proofs.ConstructionLaws.{name_automaton_within}
use Rattle.fr_model_examples.specs.Groups.{generator, doubling}
use Rattle.fr_model_examples.specs.Automata.{adding_states, adding_inverse_states, swap_states, adding_then_swap_states, doubling_states, swap_to_nowhere, identity_to_nowhere}
use Rattle.fr_model_examples.specs.ConstructionInstances.{NamesHaveAutomata, ClosuresPass, InverseAutomata, ProductAutomata}
use Rattle.fr_model_examples.proofs.Letters.{swap, stay, letter_cases}
use Rattle.fr_model_examples.proofs.SectionWordFacts.{lists, listed, three, passed}

-- ---- section words
IsAutomaton-doubling : IsAutomaton 2 doubling_states
IsAutomaton-doubling = All-from_recursion (IsState 2 3) doubling_states (
  record { permutes = swap; arity = refl; below = All-from_recursion (λ n. n < 3) (1 ∷ 2 ∷ []) (omega arith, (omega arith, tt)) },
  (
    record { permutes = stay; arity = refl; below = All-from_recursion (λ n. n < 3) (1 ∷ 1 ∷ []) (omega arith, (omega arith, tt)) },
    (record { permutes = stay; arity = refl; below = All-from_recursion (λ n. n < 3) (2 ∷ 2 ∷ []) (omega arith, (omega arith, tt)) }, tt),
  ),
)

doubling_outputs : (i x : ℕ) → i < 3 → IsLetter 2 x → image (state_at doubling_states i).perm x ≡ product_output doubling (get_or lists i []) x
doubling_outputs zero x h l = elim (letter_cases x l) [ inl e ↦ rw e refl | inr e ↦ rw e refl ]
doubling_outputs (suc zero) x h l = elim (letter_cases x l) [ inl e ↦ rw e refl | inr e ↦ rw e refl ]
doubling_outputs (suc (suc zero)) x h l = elim (letter_cases x l) [ inl e ↦ rw e refl | inr e ↦ rw e refl ]
doubling_outputs (suc (suc (suc i))) x h l = absurd (omega arith)

doubling_nexts : (i x : ℕ) → i < 3 → IsLetter 2 x → get_or lists (next_state doubling_states i x) [] ≡ reduced (product_section doubling (get_or lists i []) x)
doubling_nexts zero x h l = elim (letter_cases x l) [ inl e ↦ rw e refl | inr e ↦ rw e refl ]
doubling_nexts (suc zero) x h l = elim (letter_cases x l) [ inl e ↦ rw e refl | inr e ↦ rw e refl ]
doubling_nexts (suc (suc zero)) x h l = elim (letter_cases x l) [ inl e ↦ rw e refl | inr e ↦ rw e refl ]
doubling_nexts (suc (suc (suc i))) x h l = absurd (omega arith)

closure : IsClosure 2 doubling lists doubling_states
closure = record { automaton = IsAutomaton-doubling; count = refl; outputs = doubling_outputs; nexts = doubling_nexts }

automaton : IsNameAutomaton 2 doubling 0 lists doubling_states
automaton = record { closure = closure; first = refl; one_each = listed }

pub name_automata : NamesHaveAutomata
name_automata = record {
  three = three;
  closure = closure;
  automaton = automaton;
  not_other_product = λ c. let e : ◌≡◌ {A = List Factor} (generator 0 ∷ []) (generator 0 ∷ generator 0 ∷ []) = c.nexts 0 1 (omega arith) (omega arith, omega arith) in omega (arith, ap length e);
  not_square_first = λ c. omega (arith, ap length c.first);
  not_two = λ c. omega (arith, c.closure.count);
  not_to_nowhere = λ c. let b : 7 < 1 = (state_is 2 swap_to_nowhere 0 c.automaton (omega arith)).below 0 0 (omega arith) in omega arith;
}

short : (i : ℕ) → i < 3 → length (get_or lists i []) ≤ 4096
short zero h = omega arith
short (suc zero) h = omega arith
short (suc (suc zero)) h = omega arith
short (suc (suc (suc i))) h = absurd (omega arith)

pub closures_pass : ClosuresPass
closures_pass = record { passed = passed; not_passed = name_automaton_within 2 doubling 0 lists doubling_states automaton (omega arith) short }

-- ---- inverses
IsAutomaton-inverse : IsAutomaton 2 adding_inverse_states
IsAutomaton-inverse = All-from_recursion (IsState 2 2) adding_inverse_states (
  record { permutes = swap; arity = refl; below = All-from_recursion (λ n. n < 2) (0 ∷ 1 ∷ []) (omega arith, (omega arith, tt)) },
  (record { permutes = stay; arity = refl; below = All-from_recursion (λ n. n < 2) (1 ∷ 1 ∷ []) (omega arith, (omega arith, tt)) }, tt),
)

IsAutomaton-swap : IsAutomaton 2 swap_states
IsAutomaton-swap = All-from_recursion (IsState 2 2) swap_states (
  record { permutes = swap; arity = refl; below = All-from_recursion (λ n. n < 2) (1 ∷ 1 ∷ []) (omega arith, (omega arith, tt)) },
  (record { permutes = stay; arity = refl; below = All-from_recursion (λ n. n < 2) (1 ∷ 1 ∷ []) (omega arith, (omega arith, tt)) }, tt),
)

inverse_outputs : (i y : ℕ) → i < 2 → IsLetter 2 y → image (state_at adding_inverse_states i).perm y ≡ preimage (state_at adding_states i).perm y
inverse_outputs zero y h l = elim (letter_cases y l) [ inl e ↦ rw e refl | inr e ↦ rw e refl ]
inverse_outputs (suc zero) y h l = elim (letter_cases y l) [ inl e ↦ rw e refl | inr e ↦ rw e refl ]
inverse_outputs (suc (suc i)) y h l = absurd (omega arith)

inverse_nexts : (i y : ℕ) → i < 2 → IsLetter 2 y → next_state adding_inverse_states i y ≡ next_state adding_states i (preimage (state_at adding_states i).perm y)
inverse_nexts zero y h l = elim (letter_cases y l) [ inl e ↦ rw e refl | inr e ↦ rw e refl ]
inverse_nexts (suc zero) y h l = elim (letter_cases y l) [ inl e ↦ rw e refl | inr e ↦ rw e refl ]
inverse_nexts (suc (suc i)) y h l = absurd (omega arith)

swap_outputs : (i y : ℕ) → i < 2 → IsLetter 2 y → image (state_at swap_states i).perm y ≡ preimage (state_at swap_states i).perm y
swap_outputs zero y h l = elim (letter_cases y l) [ inl e ↦ rw e refl | inr e ↦ rw e refl ]
swap_outputs (suc zero) y h l = elim (letter_cases y l) [ inl e ↦ rw e refl | inr e ↦ rw e refl ]
swap_outputs (suc (suc i)) y h l = absurd (omega arith)

swap_nexts : (i y : ℕ) → i < 2 → IsLetter 2 y → next_state swap_states i y ≡ next_state swap_states i (preimage (state_at swap_states i).perm y)
swap_nexts zero y h l = elim (letter_cases y l) [ inl e ↦ rw e refl | inr e ↦ rw e refl ]
swap_nexts (suc zero) y h l = elim (letter_cases y l) [ inl e ↦ rw e refl | inr e ↦ rw e refl ]
swap_nexts (suc (suc i)) y h l = absurd (omega arith)

pub inverse_automata : InverseAutomata
inverse_automata = record {
  inverse = record { automaton = IsAutomaton-inverse; count = refl; outputs = inverse_outputs; nexts = inverse_nexts };
  not_itself = λ c. let e : ◌≡◌ {A = ℕ} 1 0 = c.nexts 0 1 (omega arith) (omega arith, omega arith) in omega arith;
  own_inverse = record { automaton = IsAutomaton-swap; count = refl; outputs = swap_outputs; nexts = swap_nexts };
}

-- ---- products
abbrev lefts : List ℕ
lefts = 0 ∷ 1 ∷ 0 ∷ []

abbrev rights : List ℕ
rights = 0 ∷ 1 ∷ 1 ∷ []

IsAutomaton-product : IsAutomaton 2 adding_then_swap_states
IsAutomaton-product = All-from_recursion (IsState 2 3) adding_then_swap_states (
  record { permutes = stay; arity = refl; below = All-from_recursion (λ n. n < 3) (1 ∷ 2 ∷ []) (omega arith, (omega arith, tt)) },
  (
    record { permutes = stay; arity = refl; below = All-from_recursion (λ n. n < 3) (1 ∷ 1 ∷ []) (omega arith, (omega arith, tt)) },
    (record { permutes = swap; arity = refl; below = All-from_recursion (λ n. n < 3) (1 ∷ 2 ∷ []) (omega arith, (omega arith, tt)) }, tt),
  ),
)

lefts_below : (i : ℕ) → i < 3 → slice_index lefts i < 2
lefts_below zero h = omega arith
lefts_below (suc zero) h = omega arith
lefts_below (suc (suc zero)) h = omega arith
lefts_below (suc (suc (suc i))) h = absurd (omega arith)

rights_below : (i : ℕ) → i < 3 → slice_index rights i < 2
rights_below zero h = omega arith
rights_below (suc zero) h = omega arith
rights_below (suc (suc zero)) h = omega arith
rights_below (suc (suc (suc i))) h = absurd (omega arith)

product_outputs : (i x : ℕ) → i < 3 → IsLetter 2 x → image (state_at adding_then_swap_states i).perm x ≡ image (state_at swap_states (slice_index rights i)).perm (image (state_at adding_states (slice_index lefts i)).perm x)
product_outputs zero x h l = elim (letter_cases x l) [ inl e ↦ rw e refl | inr e ↦ rw e refl ]
product_outputs (suc zero) x h l = elim (letter_cases x l) [ inl e ↦ rw e refl | inr e ↦ rw e refl ]
product_outputs (suc (suc zero)) x h l = elim (letter_cases x l) [ inl e ↦ rw e refl | inr e ↦ rw e refl ]
product_outputs (suc (suc (suc i))) x h l = absurd (omega arith)

product_lefts : (i x : ℕ) → i < 3 → IsLetter 2 x → slice_index lefts (next_state adding_then_swap_states i x) ≡ next_state adding_states (slice_index lefts i) x
product_lefts zero x h l = elim (letter_cases x l) [ inl e ↦ rw e refl | inr e ↦ rw e refl ]
product_lefts (suc zero) x h l = elim (letter_cases x l) [ inl e ↦ rw e refl | inr e ↦ rw e refl ]
product_lefts (suc (suc zero)) x h l = elim (letter_cases x l) [ inl e ↦ rw e refl | inr e ↦ rw e refl ]
product_lefts (suc (suc (suc i))) x h l = absurd (omega arith)

product_rights : (i x : ℕ) → i < 3 → IsLetter 2 x → slice_index rights (next_state adding_then_swap_states i x) ≡ next_state swap_states (slice_index rights i) (image (state_at adding_states (slice_index lefts i)).perm x)
product_rights zero x h l = elim (letter_cases x l) [ inl e ↦ rw e refl | inr e ↦ rw e refl ]
product_rights (suc zero) x h l = elim (letter_cases x l) [ inl e ↦ rw e refl | inr e ↦ rw e refl ]
product_rights (suc (suc zero)) x h l = elim (letter_cases x l) [ inl e ↦ rw e refl | inr e ↦ rw e refl ]
product_rights (suc (suc (suc i))) x h l = absurd (omega arith)

pub product_automata : ProductAutomata
product_automata = record {
  product = record {
    automaton = IsAutomaton-product;
    left_count = refl;
    right_count = refl;
    lefts_below = lefts_below;
    rights_below = rights_below;
    outputs = product_outputs;
    next_lefts = product_lefts;
    next_rights = product_rights;
  };
  not_swap_first = λ c. let e : ◌≡◌ {A = ℕ} 1 0 = c.next_rights 0 1 (omega arith) (omega arith, omega arith) in omega arith;
  not_to_nowhere = λ c. let b : 5 < 1 = (state_is 2 identity_to_nowhere 0 c.automaton (omega arith)).below 0 0 (omega arith) in omega arith;
}
