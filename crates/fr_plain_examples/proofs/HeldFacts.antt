-- What the steps of the adding machine hold.
use Rattle.std.proofs.Common.{ℕ, zero, suc, ◌≡◌, ◌<◌, ◌⊎◌, inl, inr, List, [], ◌∷◌, get_or, Some, refl, arith}
use Rattle.std.proofs.lemmas.List.Elements.{All-nil, All-from_recursion}
use Rattle.fr_model.specs.Words.{IsWord}
use Rattle.fr_model.specs.Terms.{Term, One, Section, IsAlike}
use Rattle.fr_model.proofs.AlikeLaws.{alike_sym, alike_trans, section_nil}
use Rattle.fr_model.proofs.GrowthLaws.{section_one}
use Rattle.fr_plain.specs.Steps.{Step, Looked, Identity, Defined}
use Rattle.fr_plain.specs.Held.{IsHeld, HoldsClasses}
use Rattle.fr_plain.proofs.HeldLaws.{alike_steps_refl, holds_once}
use Rattle.fr_model_examples.specs.Groups.{adding_machine}
use Rattle.fr_model_examples.proofs.AddingMachine.{t_at_one, t_moves, t_section}
use Rattle.fr_plain_examples.specs.Scripts.{t_term}
use Rattle.fr_plain_examples.specs.Held.{AddingMachineHoldsTwo, NoStepHoldsNone}

abbrev IsEither : Term → Type 0
IsEither u = IsAlike u t_term ⊎ IsAlike u One

section_is : (u : Term) (w : List ℕ) → IsWord 2 w → IsAlike u (Section t_term w) → IsEither u
section_is u w h a = elim (t_section w h) [ inl s ↦ inl (alike_trans a s.0) | inr s ↦ inr (alike_trans a s) ]

-- steps that hold t and 1 and nothing else
two_held : (ss : List Step) → IsHeld 2 ss t_term → IsHeld 2 ss One → ((u : Term) → IsHeld 2 ss u → IsEither u) → HoldsClasses 2 ss 2
two_held ss t one only = record {
  members = t_term ∷ One ∷ [];
  count = refl;
  valid = All-from_recursion (IsHeld 2 ss) (t_term ∷ One ∷ []) (t, (one, tt));
  apart = pair;
  covers = λ u h. elim (only u h) [ inl a ↦ (0, omega arith, a) | inr a ↦ (1, omega arith, a) ];
}
  where
    pair : (i j : ℕ) (z : Term) → i < j → j < 2 → ¬ IsAlike (get_or (t_term ∷ One ∷ []) i z) (get_or (t_term ∷ One ∷ []) j z)
    pair zero zero z l m a = absurd (omega (arith, l))
    pair zero (suc zero) z l m a = t_moves a
    pair zero (suc (suc j)) z l m a = absurd (omega (arith, m))
    pair (suc i) j z l m a = absurd (omega (arith, l, m))

itself : IsHeld 2 (Defined adding_machine 0 ∷ []) t_term
itself = inl ([], tt, alike_sym (section_nil t_term))

its_section : IsHeld 2 (Defined adding_machine 0 ∷ []) One
its_section = inl (1 ∷ [], ((omega arith, omega arith), tt), alike_sym t_at_one)

of_one : (u : Term) → IsHeld 2 (Defined adding_machine 0 ∷ []) u → IsEither u
of_one u (inl h) = section_is u h.0 h.1 h.2
of_one u (inr h) = absurd h

of_three : (u : Term) → IsHeld 2 (Identity ∷ Defined adding_machine 0 ∷ Looked (Some t_term) ∷ []) u → IsEither u
of_three u (inl h) = inr (alike_trans h.2 (section_one h.0))
of_three u (inr (inl h)) = section_is u h.0 h.1 h.2
of_three u (inr (inr (inl h))) = section_is u h.0 h.1 h.2
of_three u (inr (inr (inr h))) = absurd h

once : (ss : List Step) (m n : ℕ) → HoldsClasses 2 ss m → HoldsClasses 2 ss n → m ≡ n
once ss m n a b = holds_once 2 ss ss m n (alike_steps_refl ss) a b

two : HoldsClasses 2 (Defined adding_machine 0 ∷ []) 2
two = two_held (Defined adding_machine 0 ∷ []) itself its_section of_one

still_two : HoldsClasses 2 (Identity ∷ Defined adding_machine 0 ∷ Looked (Some t_term) ∷ []) 2
still_two = two_held (Identity ∷ Defined adding_machine 0 ∷ Looked (Some t_term) ∷ []) (inr (inl ([], tt, alike_sym (section_nil t_term)))) (inl ([], tt, alike_sym (section_nil One))) of_three

pub adding : AddingMachineHoldsTwo
adding = record {
  holds = two;
  not_one = λ x. let e = once (Defined adding_machine 0 ∷ []) 2 1 two x in omega (arith, e);
  again = still_two;
  not_charge = λ x. let e = once (Identity ∷ Defined adding_machine 0 ∷ Looked (Some t_term) ∷ []) 2 3 still_two x in omega (arith, e);
}

nothing : HoldsClasses 2 [] 0
nothing = record { members = []; count = refl; valid = All-nil (IsHeld 2 []); apart = λ i j z l m a. omega (arith, m); covers = λ u h. absurd h }

pub none : NoStepHoldsNone
none = record {
  holds = nothing;
  not_one = λ x. let e = once [] 0 1 nothing x in omega (arith, e);
}
