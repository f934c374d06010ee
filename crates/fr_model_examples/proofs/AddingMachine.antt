-- The sections of the adding machine: itself at words of twos, and the identity at all others.
use Rattle.std.proofs.Common.{ℕ, zero, suc, ◌≡◌, ◌⊎◌, inl, inr, List, [], ◌∷◌, length, refl, arith}
use Rattle.std.proofs.lemmas.List.Elements.{All-from_recursion}
use Rattle.fr_model.specs.Words.{IsWord}
use Rattle.fr_model.specs.Systems.{IsWreath}
use Rattle.fr_model.specs.Terms.{One, Name, Section, IsTerm, IsAlike}
use Rattle.fr_model.proofs.SystemLaws.{act_product-nil}
use Rattle.fr_model.proofs.AlikeLaws.{alike_sym, alike_trans, alike_section, section_section, section_nil}
use Rattle.fr_model_examples.specs.Groups.{adding_machine}
use Rattle.fr_model_examples.proofs.Letters.{swap, letter_cases, twos}
use Rattle.fr_model.proofs.GrowthLaws.{section_one}

pub t_at_two : IsAlike (Section (Name adding_machine 0) (2 ∷ [])) (Name adding_machine 0)
t_at_two = record { images = λ w. refl }

pub t_at_one : IsAlike (Section (Name adding_machine 0) (1 ∷ [])) One
t_at_one = record { images = λ w. act_product-nil adding_machine w }

pub t_moves : ¬ IsAlike (Name adding_machine 0) One
t_moves h = let e : ◌≡◌ {A = List ℕ} (2 ∷ []) (1 ∷ []) = h.images (1 ∷ []) in cc

pub t_two : (w : List ℕ) → IsAlike (Section (Name adding_machine 0) (2 ∷ w)) (Section (Name adding_machine 0) w)
t_two w = alike_trans (alike_sym (section_section (Name adding_machine 0) (2 ∷ []) w)) (alike_section w t_at_two)

pub t_one_more : (w : List ℕ) → IsAlike (Section (Name adding_machine 0) (1 ∷ w)) One
t_one_more w = alike_trans (alike_sym (section_section (Name adding_machine 0) (1 ∷ []) w)) (alike_trans (alike_section w t_at_one) (section_one w))

pub t_section : (w : List ℕ) → IsWord 2 w → (IsAlike (Section (Name adding_machine 0) w) (Name adding_machine 0) × (w ≡ twos (length w))) ⊎ IsAlike (Section (Name adding_machine 0) w) One
unfolding twos
t_section [] k = inl (section_nil (Name adding_machine 0), refl)
t_section (x ∷ w) k = elim (letter_cases x k.0) [
  | inl e ↦ inr (rw e (t_one_more w))
  | inr e ↦ elim (t_section w k.1) [
    | inl r ↦ inl (rw e (alike_trans (t_two w) r.0), rw (e, ← r.1) refl)
    | inr r ↦ inr (rw e (alike_trans (t_two w) r))
  ]
]

pub t_twos : (n : ℕ) → IsAlike (Section (Name adding_machine 0) (twos n)) (Name adding_machine 0)
unfolding twos
t_twos zero = section_nil (Name adding_machine 0)
t_twos (suc n) = alike_trans (t_two (twos n)) (t_twos n)

pub t_term : IsTerm 2 (Name adding_machine 0)
t_term = (All-from_recursion (IsWreath 2 1) adding_machine (record { permutes = swap; arity = refl; known = (tt, ((omega arith, tt), tt)) }, tt), omega arith)
