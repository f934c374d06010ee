-- Powers of the adding machine: what they stand for, and what they are charged.
use Rattle.std.proofs.Common.{ℕ, ◌≡◌, ◌+◌, ◌-◌, ◌<◌, ◌≤◌, ◌∙◌, true, false, List, [], ◌∷◌, Some, refl, sym, ap, subst, arith}
use Rattle.std.specs.Prelude.{codes}
use Rattle.fr_model.specs.Automata.{state_term}
use Rattle.fr_model.specs.Terms.{Term, One, Inverse, Product, IsAlike}
use Rattle.fr_model.specs.Classes.{IsSize, IsPairCount}
use Rattle.fr_model.proofs.AlikeLaws.{alike_sym, alike_trans, alike_product}
use Rattle.fr_model.proofs.ClassLaws.{IsSize-alike, IsPairCount-alike}
use Rattle.fr_plain.specs.Steps.{Step, Looked, Identity, Inverted, Multiplied, IsCharged, AreEvaluated}
use Rattle.fr_plain.specs.Expansions.{Expansion, expansion}
use Rattle.fr_plain.proofs.StepLaws.{evaluated_once}
use Rattle.fr_plain_examples.specs.Scripts.{t_term, adding_scope, fifth_power, zeroth_power, third_of_inverse}
use Rattle.fr_plain_examples.specs.Powers.{FifthPowerBySquaring, ZerothPowerIsOne, ThirdPowerOfInverse}
use Rattle.fr_plain_examples.proofs.AddingPowers.{powers, sum_alike, t_alike, inverse_alike}
use Rattle.fr_plain_examples.proofs.Counts.{size_of_one_back, size_of_two_back, size_of_three_back, size_of_square, size_of_fourth, size_of_fifth, pairs_of_t_and_t, pairs_of_squares, pairs_of_fourth_and_t, pairs_of_inverses, pairs_of_two_back_and_inverse}
use Rattle.fr_plain_examples.proofs.Expanded.{power_is}

-- a product of two powers is charged the size of the power of the sum
module _ (t u : Term) (i j : ℕ) (l : i < 9) (m : j < 9) (lo : 3 ≤ i + j) (hi : i + j < 12) (a : IsAlike t (state_term powers i)) (b : IsAlike u (state_term powers j)) where
  pub multiplied : IsAlike (Product t u) (state_term powers (i + j - 3))
  multiplied = alike_trans (alike_product a b) (sum_alike i j l m lo hi)

  pub charged : (pairs size : ℕ) → pairs ≤ 65536 → IsPairCount 2 (state_term powers i) (state_term powers j) pairs → size ≤ 1024 → IsSize 2 (state_term powers (i + j - 3)) size → IsCharged 2 (Multiplied t u) size
  charged pairs size few count small is = (
    (pairs, few, IsPairCount-alike 2 (state_term powers i) t (state_term powers j) u pairs (alike_sym a) (alike_sym b) count),
    (small, IsSize-alike 2 (state_term powers (i + j - 3)) (Product t u) size (alike_sym multiplied) is),
  )

pub square_alike : IsAlike (Product t_term t_term) (state_term powers 5)
square_alike = multiplied t_term t_term 4 4 (omega arith) (omega arith) (omega arith) (omega arith) t_alike t_alike

pub square_charged : IsCharged 2 (Multiplied t_term t_term) 3
square_charged = charged t_term t_term 4 4 (omega arith) (omega arith) (omega arith) (omega arith) t_alike t_alike 4 3 (omega arith) pairs_of_t_and_t (omega arith) size_of_square

fourth_alike : IsAlike (Product (Product t_term t_term) (Product t_term t_term)) (state_term powers 7)
fourth_alike = multiplied (Product t_term t_term) (Product t_term t_term) 5 5 (omega arith) (omega arith) (omega arith) (omega arith) square_alike square_alike

fourth_charged : IsCharged 2 (Multiplied (Product t_term t_term) (Product t_term t_term)) 4
fourth_charged = charged (Product t_term t_term) (Product t_term t_term) 5 5 (omega arith) (omega arith) (omega arith) (omega arith) square_alike square_alike 5 4 (omega arith) pairs_of_squares (omega arith) size_of_fourth

fifth_charged : IsCharged 2 (Multiplied (Product (Product t_term t_term) (Product t_term t_term)) t_term) 5
fifth_charged = charged (Product (Product t_term t_term) (Product t_term t_term)) t_term 7 4 (omega arith) (omega arith) (omega arith) (omega arith) fourth_alike t_alike 7 5 (omega arith) pairs_of_fourth_and_t (omega arith) size_of_fifth

inverse_charged : IsCharged 2 (Inverted t_term) 2
inverse_charged = IsSize-alike 2 (state_term powers 2) (Inverse t_term) 2 (alike_sym inverse_alike) size_of_one_back

two_back_alike : IsAlike (Product (Inverse t_term) (Inverse t_term)) (state_term powers 1)
two_back_alike = multiplied (Inverse t_term) (Inverse t_term) 2 2 (omega arith) (omega arith) (omega arith) (omega arith) inverse_alike inverse_alike

two_back_charged : IsCharged 2 (Multiplied (Inverse t_term) (Inverse t_term)) 3
two_back_charged = charged (Inverse t_term) (Inverse t_term) 2 2 (omega arith) (omega arith) (omega arith) (omega arith) inverse_alike inverse_alike 4 3 (omega arith) pairs_of_inverses (omega arith) size_of_two_back

three_back_charged : IsCharged 2 (Multiplied (Product (Inverse t_term) (Inverse t_term)) (Inverse t_term)) 4
three_back_charged = charged (Product (Inverse t_term) (Inverse t_term)) (Inverse t_term) 1 2 (omega arith) (omega arith) (omega arith) (omega arith) two_back_alike inverse_alike 5 4 (omega arith) pairs_of_two_back_and_inverse (omega arith) size_of_three_back

fifth_is : expansion adding_scope fifth_power ≡ record { steps = Looked (Some t_term) ∷ Multiplied t_term t_term ∷ Multiplied (Product t_term t_term) (Product t_term t_term) ∷ Multiplied (Product (Product t_term t_term) (Product t_term t_term)) t_term ∷ []; value = Product (Product (Product t_term t_term) (Product t_term t_term)) t_term }
fifth_is = power_is adding_scope (codes "t") false 5

zeroth_is : expansion adding_scope zeroth_power ≡ record { steps = Looked (Some t_term) ∷ Identity ∷ []; value = One }
zeroth_is = power_is adding_scope (codes "t") true 0

third_is : expansion adding_scope third_of_inverse ≡ record { steps = Looked (Some t_term) ∷ Inverted t_term ∷ Multiplied (Inverse t_term) (Inverse t_term) ∷ Multiplied (Product (Inverse t_term) (Inverse t_term)) (Inverse t_term) ∷ []; value = Product (Product (Inverse t_term) (Inverse t_term)) (Inverse t_term) }
third_is = power_is adding_scope (codes "t") true 3

fifth_charge : AreEvaluated 2 (expansion adding_scope fifth_power).steps 12
fifth_charge = subst (λ (e : Expansion). AreEvaluated 2 e.steps 12) (sym fifth_is) (0, 12, refl, (3, 9, square_charged, (4, 5, fourth_charged, (5, 0, fifth_charged, refl, refl), refl), refl), refl)

zeroth_charge : AreEvaluated 2 (expansion adding_scope zeroth_power).steps 1
zeroth_charge = subst (λ (e : Expansion). AreEvaluated 2 e.steps 1) (sym zeroth_is) (0, 1, refl, (1, 0, refl, refl, refl), refl)

third_charge : AreEvaluated 2 (expansion adding_scope third_of_inverse).steps 9
third_charge = subst (λ (e : Expansion). AreEvaluated 2 e.steps 9) (sym third_is) (0, 9, refl, (2, 7, inverse_charged, (3, 4, two_back_charged, (4, 0, three_back_charged, refl, refl), refl), refl), refl)

pub fifth : FifthPowerBySquaring
fifth = record {
  expands = fifth_is;
  not_from_left = λ e. let v : ◌≡◌ {A = Term} (Product (Product (Product t_term t_term) (Product t_term t_term)) t_term) (Product (Product (Product (Product t_term t_term) t_term) t_term) t_term) = sym (ap (λ (x : Expansion). x.value) fifth_is) ∙ e in cc;
  charge = fifth_charge;
  not_eleven = λ a. omega (arith, evaluated_once 2 (expansion adding_scope fifth_power).steps 12 11 fifth_charge a);
}

pub zeroth : ZerothPowerIsOne
zeroth = record {
  expands = zeroth_is;
  not_inverted = λ e. let v : ◌≡◌ {A = Term} One (Inverse t_term) = sym (ap (λ (x : Expansion). x.value) zeroth_is) ∙ e in cc;
  not_alone = λ e. let v : ◌≡◌ {A = List Step} (Looked (Some t_term) ∷ Identity ∷ []) (Identity ∷ []) = sym (ap (λ (x : Expansion). x.steps) zeroth_is) ∙ e in cc;
  charge = zeroth_charge;
  not_zero = λ a. omega (arith, evaluated_once 2 (expansion adding_scope zeroth_power).steps 1 0 zeroth_charge a);
}

pub of_inverse : ThirdPowerOfInverse
of_inverse = record {
  expands = third_is;
  not_inverse_last = λ e. let v : ◌≡◌ {A = Term} (Product (Product (Inverse t_term) (Inverse t_term)) (Inverse t_term)) (Inverse (Product (Product t_term t_term) t_term)) = sym (ap (λ (x : Expansion). x.value) third_is) ∙ e in cc;
  charge = third_charge;
  not_seven = λ a. omega (arith, evaluated_once 2 (expansion adding_scope third_of_inverse).steps 9 7 third_charge a);
}
