-- The canonical numbering of the adding machine, and codes.
use Rattle.std.proofs.Common.{ℕ, zero, suc, ◌≡◌, ◌<◌, inl, inr, List, [], ◌∷◌, ◌++◌, length, get_or, refl, ap, arith}
use Rattle.fr_model.specs.Words.{IsLetter, IsWord}
use Rattle.fr_model.specs.Permutations.{image}
use Rattle.fr_model.specs.Terms.{Term, Section, act, IsAlike}
use Rattle.fr_model.specs.Automata.{State, state_at, next_state, state_after, state_term}
use Rattle.fr_model.specs.Separation.{IsShortlexBefore}
use Rattle.fr_model.proofs.AlikeLaws.{alike_refl, alike_sym, alike_trans}
use Rattle.fr_model.specs.Canonical.{IsLeastWord, IsCanonical, IsCode, code_of}
use Rattle.fr_model.proofs.AutomatonLaws.{section_state, state_after-lt}
use Rattle.fr_model.proofs.CanonicalLaws.{canonical_same}
use Rattle.fr_model.proofs.CodeLaws.{code-same}
use Rattle.fr_model_examples.specs.Automata.{adding_states, adding_states_turned, adding_states_and_spare}
use Rattle.fr_model_examples.specs.NumberingInstances.{LeastWordsOfAddingMachine, AddingMachineIsNumbered, CodesAreWritten}
use Rattle.fr_model_examples.proofs.Letters.{one, two, letter_cases, two_cases, nothing_before, IsAutomaton-adding}
use Rattle.fr_model_examples.proofs.SizeFacts.{words, t_apart}

at_word : (v : List ℕ) → IsWord 2 v → IsAlike (Section (state_term adding_states 0) v) (state_term adding_states (state_after adding_states 0 v))
at_word v h = section_state 2 adding_states 0 v IsAutomaton-adding (omega arith) h

before_one : (w : List ℕ) → IsWord 2 w → IsShortlexBefore w (1 ∷ []) → w ≡ []
before_one [] k b = refl
before_one (x ∷ w) k (inl h) = absurd (omega (arith, h))
before_one (x ∷ []) k (inr h) = elim h.1 [ inl a ↦ absurd (omega (arith, a, k.0.0)) | inr a ↦ absurd a.1 ]
before_one (x ∷ y ∷ w) k (inr h) = absurd (omega (arith, h.0))

least_words : (k : ℕ) → k < 2 → IsLeastWord 2 (state_term adding_states 0) (get_or words k [])
unfolding words
least_words zero h = record { valid = tt; least = λ w k b same. nothing_before w b }
least_words (suc zero) h = record { valid = one; least = λ w k b same. t_apart (alike_trans (alike_sym (at_word [] tt)) (alike_trans (rw (before_one w k b) at same) (at_word (1 ∷ []) one))) }
least_words (suc (suc k)) h = absurd (omega arith)

ordered : (j k : ℕ) → j < k → k < 2 → IsShortlexBefore (get_or words j []) (get_or words k [])
unfolding words
ordered zero (suc zero) a b = inl (omega arith)
ordered zero zero a b = absurd (omega arith)
ordered j (suc (suc k)) a b = absurd (omega arith)
ordered (suc j) zero a b = absurd (omega arith)
ordered (suc j) (suc zero) a b = absurd (omega arith)

whole_two : IsLeastWord 2 (state_term adding_states 0) (2 ∷ []) → ⊥
whole_two l = l.least [] tt (inl (omega arith)) (alike_trans (at_word [] tt) (alike_sym (at_word (2 ∷ []) l.valid)))

whole : (v : List ℕ) → IsLeastWord 2 (state_term adding_states 0) v → (k : ℕ) × (k < 2) × (v ≡ get_or words k [])
unfolding words
whole [] l = (0, omega arith, refl)
whole (x ∷ []) l = elim (letter_cases x l.valid.0) [
  | inl e ↦ (1, omega arith, rw e refl)
  | inr e ↦ absurd (whole_two (rw e at l))
]
whole (x ∷ y ∷ w) l = elim (two_cases (state_after adding_states 0 (x ∷ y ∷ w)) (state_after-lt 2 adding_states 0 (x ∷ y ∷ w) IsAutomaton-adding (omega arith))) [
  | inl e ↦ absurd (l.least [] tt (inl (omega arith)) (alike_trans (at_word [] tt) (alike_sym (rw e at (at_word (x ∷ y ∷ w) l.valid)))))
  | inr e ↦ absurd (l.least (1 ∷ []) one (inl (omega arith)) (alike_trans (at_word (1 ∷ []) one) (alike_sym (rw e at (at_word (x ∷ y ∷ w) l.valid)))))
]

outputs : (k x : ℕ) → k < 2 → IsLetter 2 x → act (Section (state_term adding_states 0) (get_or words k [])) (x ∷ []) ≡ image (state_at adding_states k).perm x ∷ []
unfolding words state_term
outputs zero x h l = elim (letter_cases x l) [ inl e ↦ rw e refl | inr e ↦ rw e refl ]
outputs (suc zero) x h l = elim (letter_cases x l) [ inl e ↦ rw e refl | inr e ↦ rw e refl ]
outputs (suc (suc k)) x h l = absurd (omega arith)

word_of : (x : ℕ) → IsLetter 2 x → IsWord 2 (x ∷ [])
word_of x h = (h, tt)

nexts : (k x : ℕ) → k < 2 → IsLetter 2 x → IsAlike (Section (state_term adding_states 0) (get_or words k [] ++ x ∷ [])) (Section (state_term adding_states 0) (get_or words (next_state adding_states k x) []))
unfolding words
nexts zero x h l = elim (letter_cases x l) [
  | inl e ↦ rw e (alike_refl (Section (state_term adding_states 0) (1 ∷ [])))
  | inr e ↦ rw e (alike_trans (at_word (2 ∷ []) ((omega arith, omega arith), tt)) (alike_sym (at_word [] tt)))
]
nexts (suc zero) x h l = elim (letter_cases x l) [
  | inl e ↦ rw e (alike_trans (at_word (1 ∷ 1 ∷ []) ((omega arith, omega arith), one)) (alike_sym (at_word (1 ∷ []) one)))
  | inr e ↦ rw e (alike_trans (at_word (1 ∷ 2 ∷ []) ((omega arith, omega arith), ((omega arith, omega arith), tt))) (alike_sym (at_word (1 ∷ []) one)))
]
nexts (suc (suc k)) x h l = absurd (omega arith)

canonical : IsCanonical 2 (state_term adding_states 0) adding_states
unfolding words
canonical = record {
  automaton = IsAutomaton-adding;
  words = words;
  count = refl;
  least = least_words;
  ordered = ordered;
  whole = whole;
  outputs = outputs;
  nexts = nexts;
}

not_turned : ¬ IsCanonical 2 (state_term adding_states 0) adding_states_turned
not_turned c = let e : ◌≡◌ {A = List State} adding_states adding_states_turned = canonical_same 2 (state_term adding_states 0) (state_term adding_states 0) adding_states adding_states_turned canonical c (alike_refl (state_term adding_states 0)) in
    let f : ◌≡◌ {A = List ℕ} (2 ∷ 1 ∷ []) (1 ∷ 2 ∷ []) = ap (λ qs. (state_at qs 0).perm) e in cc

not_longer : ¬ IsCanonical 2 (state_term adding_states 0) adding_states_and_spare
not_longer c = omega (arith, ap length (canonical_same 2 (state_term adding_states 0) (state_term adding_states 0) adding_states adding_states_and_spare canonical c (alike_refl (state_term adding_states 0))))

not_none : (t : Term) → ¬ IsCanonical 2 t []
not_none t c = let r = c.whole [] (record { valid = tt; least = λ w k b same. nothing_before w b }) in omega (arith, r.1, c.count)

pub numbered : AddingMachineIsNumbered
numbered = record { canonical = canonical; not_turned = not_turned; not_longer = not_longer; not_none = not_none }

code : IsCode 2 (state_term adding_states 0) (1 ∷ 2 ∷ 1 ∷ 0 ∷ 2 ∷ 2 ∷ [])
code = record { states = adding_states; canonical = canonical; written = refl }

-- the code is one
only_code : (ns : List ℕ) → IsCode 2 (state_term adding_states 0) ns → ns ≡ 1 ∷ 2 ∷ 1 ∷ 0 ∷ 2 ∷ 2 ∷ []
only_code ns c = code-same 2 (state_term adding_states 0) (state_term adding_states 0) ns (1 ∷ 2 ∷ 1 ∷ 0 ∷ 2 ∷ 2 ∷ []) c code (alike_refl (state_term adding_states 0))

pub codes : CodesAreWritten
codes = record {
  adding = refl;
  grigorchuk = refl;
  code = code;
  not_other_rank = λ c. let e : ◌≡◌ {A = List ℕ} (0 ∷ 2 ∷ 1 ∷ 0 ∷ 2 ∷ 2 ∷ []) (1 ∷ 2 ∷ 1 ∷ 0 ∷ 2 ∷ 2 ∷ []) = only_code _ c in cc;
  not_turned = λ c. let e : ◌≡◌ {A = List ℕ} (0 ∷ 1 ∷ 1 ∷ 1 ∷ 1 ∷ 2 ∷ []) (1 ∷ 2 ∷ 1 ∷ 0 ∷ 2 ∷ 2 ∷ []) = only_code _ c in cc;
  not_empty = λ t c. no_code t c.states c.canonical c.written;
}
  where
    no_code : (t : Term) (qs : List State) → IsCanonical 2 t qs → ◌≡◌ {A = List ℕ} [] (code_of qs) → ⊥
    no_code t [] c e = not_none t c
    no_code t (q ∷ qs) c e = cc

pub least_of_adding_machine : LeastWordsOfAddingMachine
unfolding words
least_of_adding_machine = record {
  nothing = least_words 0 (omega arith);
  one = least_words 1 (omega arith);
  not_two = λ l. l.least [] tt (inl (omega arith)) (alike_trans (at_word [] tt) (alike_sym (at_word (2 ∷ []) two)));
}
