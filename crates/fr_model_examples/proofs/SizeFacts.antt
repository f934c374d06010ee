-- Sizes and counts of pairs of the adding machine.
use Rattle.std.proofs.Common.{ℕ, zero, suc, ◌≡◌, ◌<◌, ◌⊎◌, inl, inr, List, [], ◌∷◌, get_or, refl, arith}
use Rattle.std.proofs.lemmas.List.Elements.{All-from_recursion}
use Rattle.fr_model.specs.Words.{IsWord}
use Rattle.fr_model.specs.Terms.{Term, One, Name, Section, act, IsAlike}
use Rattle.fr_model.specs.Automata.{state_after, state_term}
use Rattle.fr_model.specs.Classes.{SameSection, IsSize, SamePair, IsPairCount}
use Rattle.fr_model.proofs.SystemLaws.{act_product-nil}
use Rattle.fr_model.proofs.TermLaws.{act-IsWord}
use Rattle.fr_model.proofs.AlikeLaws.{alike_sym, alike_trans, section_nil}
use Rattle.fr_model.proofs.CountLaws.{HasMoreThan-from_count}
use Rattle.fr_model.proofs.ClassLaws.{size_once, HasMoreStates-lt, pair_count_once, HasMorePairs-lt, IsSize-minimal}
use Rattle.fr_model_examples.specs.Groups.{adding_machine}
use Rattle.fr_model_examples.specs.Automata.{adding_states}
use Rattle.fr_model_examples.specs.SizeInstances.{AddingMachineHasTwoSections, AddingMachineHasFourPairs}
use Rattle.fr_model_examples.proofs.Letters.{one, IsAutomaton-adding}
use Rattle.fr_model_examples.proofs.AddingMachine.{t_at_one, t_at_two, t_moves, t_section, t_term}

pub t_apart : ¬ IsAlike (state_term adding_states 0) (state_term adding_states 1)
unfolding state_term
t_apart h = let e : ◌≡◌ {A = List ℕ} (2 ∷ []) (1 ∷ []) = h.images (1 ∷ []) in cc

unfoldable pub words : List (List ℕ)
words = [] ∷ (1 ∷ []) ∷ []

reach : (i : ℕ) → i < 2 → IsWord 2 (get_or words i []) × (state_after adding_states 0 (get_or words i []) ≡ i)
unfolding words
reach zero h = (tt, refl)
reach (suc zero) h = (one, refl)
reach (suc (suc k)) h = absurd (omega arith)

apart : (i j : ℕ) → i < j → j < 2 → ¬ IsAlike (state_term adding_states i) (state_term adding_states j)
apart zero (suc zero) a b = t_apart
apart zero zero a b = absurd (omega arith)
apart i (suc (suc k)) a b = absurd (omega arith)
apart (suc i) zero a b = absurd (omega arith)
apart (suc i) (suc zero) a b = absurd (omega arith)

pub size : IsSize 2 (state_term adding_states 0) 2
unfolding words
size = IsSize-minimal 2 adding_states 0 words IsAutomaton-adding (omega arith) refl reach apart

not_one : ¬ IsSize 2 (state_term adding_states 0) 1
not_one s = omega (arith, size_once 2 (state_term adding_states 0) 1 2 s size)

not_three : ¬ IsSize 2 (state_term adding_states 0) 3
not_three s = omega (arith, size_once 2 (state_term adding_states 0) 3 2 s size)

-- ---- pairs
tv : (w : List ℕ) → IsWord 2 w → IsAlike (Section (Name adding_machine 0) w) (Name adding_machine 0) ⊎ IsAlike (Section (Name adding_machine 0) w) One
tv w k = elim (t_section w k) [ inl r ↦ inl r.0 | inr r ↦ inr r ]

same_from : {s u r : Term} → IsAlike s r → IsAlike u r → IsAlike s u
same_from h k = alike_trans h (alike_sym k)

t_here : IsAlike (Section (Name adding_machine 0) []) (Name adding_machine 0)
t_here = section_nil (Name adding_machine 0)

t_one_one : IsAlike (Section (Name adding_machine 0) (1 ∷ 1 ∷ [])) One
t_one_one = record { images = λ w. act_product-nil adding_machine w }

t_two_one : IsAlike (Section (Name adding_machine 0) (2 ∷ 1 ∷ [])) One
t_two_one = record { images = λ w. act_product-nil adding_machine w }

no : {s u : Term} → IsAlike s (Name adding_machine 0) → IsAlike u One → ¬ IsAlike s u
no h k e = t_moves (alike_trans (alike_sym h) (alike_trans e k))

four_words : List (List ℕ)
four_words = [] ∷ (1 ∷ []) ∷ (2 ∷ []) ∷ (1 ∷ 1 ∷ []) ∷ []

four : IsPairCount 2 (Name adding_machine 0) (Name adding_machine 0) 4
unfolding four_words
four = record {
  members = four_words;
  count = refl;
  valid = All-from_recursion (IsWord 2) four_words (tt, (((omega arith, omega arith), tt), (((omega arith, omega arith), tt), (((omega arith, omega arith), ((omega arith, omega arith), tt)), tt))));
  apart = differ;
  covers = λ w k. go w (tv w k) (tv (act (Name adding_machine 0) w) (act-IsWord 2 (Name adding_machine 0) t_term w k));
}
  where
    differ : (i j : ℕ) (a : List ℕ) → i < j → j < 4 → ¬ SamePair (Name adding_machine 0) (Name adding_machine 0) (get_or four_words i a) (get_or four_words j a)
    differ zero (suc zero) a h k e = no t_here t_at_one e.0
    differ zero (suc (suc zero)) a h k e = no t_here t_at_one e.1
    differ zero (suc (suc (suc zero))) a h k e = no t_here t_one_one e.0
    differ (suc zero) (suc (suc zero)) a h k e = no t_at_two t_at_one (alike_sym e.0)
    differ (suc zero) (suc (suc (suc zero))) a h k e = no t_at_two t_two_one e.1
    differ (suc (suc zero)) (suc (suc (suc zero))) a h k e = no t_at_two t_one_one e.0
    differ zero zero a h k e = omega arith
    differ (suc zero) (suc zero) a h k e = omega arith
    differ (suc zero) zero a h k e = omega arith
    differ (suc (suc i)) zero a h k e = omega arith
    differ (suc (suc i)) (suc zero) a h k e = omega arith
    differ (suc (suc i)) (suc (suc zero)) a h k e = omega arith
    differ (suc (suc (suc i))) (suc (suc (suc zero))) a h k e = omega arith
    differ i (suc (suc (suc (suc j)))) a h k e = omega arith

    go : (w : List ℕ) → (IsAlike (Section (Name adding_machine 0) w) (Name adding_machine 0) ⊎ IsAlike (Section (Name adding_machine 0) w) One)
        → (IsAlike (Section (Name adding_machine 0) (act (Name adding_machine 0) w)) (Name adding_machine 0) ⊎ IsAlike (Section (Name adding_machine 0) (act (Name adding_machine 0) w)) One)
        → (i : ℕ) × (i < 4) × SamePair (Name adding_machine 0) (Name adding_machine 0) w (get_or four_words i w)
    go w (inl a) (inl b) = (0, omega arith, (same_from a t_here, same_from b t_here))
    go w (inr a) (inl b) = (1, omega arith, (same_from a t_at_one, same_from b t_at_two))
    go w (inl a) (inr b) = (2, omega arith, (same_from a t_at_two, same_from b t_at_one))
    go w (inr a) (inr b) = (3, omega arith, (same_from a t_one_one, same_from b t_two_one))

pub two_sections : AddingMachineHasTwoSections
two_sections = record {
  two = size;
  not_one = not_one;
  not_three = not_three;
  more_than_one = HasMoreThan-from_count (IsWord 2) (SameSection (state_term adding_states 0)) 1 2 (omega arith) size;
  not_more_than_two = λ m. omega (arith, HasMoreStates-lt 2 (state_term adding_states 0) 2 2 m size);
}

pub four_pairs : AddingMachineHasFourPairs
four_pairs = record {
  four = four;
  not_three = λ s. omega (arith, pair_count_once 2 (Name adding_machine 0) (Name adding_machine 0) 4 3 four s);
  few = (4, omega arith, four);
  more_than_three = HasMoreThan-from_count (IsWord 2) (SamePair (Name adding_machine 0) (Name adding_machine 0)) 3 4 (omega arith) four;
  not_more_than_four = λ m. omega (arith, HasMorePairs-lt 2 (Name adding_machine 0) (Name adding_machine 0) 4 4 m four);
}
