-- Powers of the adding machine: their steps, their elements and their charge.
use Rattle.std.specs.Prelude.{◌≡◌, ◌≢◌, [], ◌∷◌, Some}
use Rattle.fr_model.specs.Terms.{Term, One, Inverse, Product}
use Rattle.fr_plain.specs.Steps.{Looked, Identity, Inverted, Multiplied, AreEvaluated}
use Rattle.fr_plain.specs.Expansions.{expansion}
use Rattle.fr_plain_examples.specs.Scripts.{t_term, adding_scope, fifth_power, zeroth_power, third_of_inverse}

-- t*t and t^-1*t^-1
abbrev square : Term
square = Product t_term t_term

abbrev inverse_square : Term
inverse_square = Product (Inverse t_term) (Inverse t_term)

-- t^5 is made from the squares of t and of t^2, and the last product: 3, 4 and 5 states. It is not multiplied from the left
pub record FifthPowerBySquaring : Type 0 where
  pub expands : expansion adding_scope fifth_power ≡ record { steps = Looked (Some t_term) ∷ Multiplied t_term t_term ∷ Multiplied square square ∷ Multiplied (Product square square) t_term ∷ []; value = Product (Product square square) t_term }
  pub not_from_left : (expansion adding_scope fifth_power).value ≢ Product (Product (Product square t_term) t_term) t_term
  pub charge : AreEvaluated 2 (expansion adding_scope fifth_power).steps 12
  pub not_eleven : ¬ AreEvaluated 2 (expansion adding_scope fifth_power).steps 11

-- t^-0 is 1, and t is evaluated first. No inverse is made
pub record ZerothPowerIsOne : Type 0 where
  pub expands : expansion adding_scope zeroth_power ≡ record { steps = Looked (Some t_term) ∷ Identity ∷ []; value = One }
  pub not_inverted : (expansion adding_scope zeroth_power).value ≢ Inverse t_term
  pub not_alone : (expansion adding_scope zeroth_power).steps ≢ Identity ∷ []
  pub charge : AreEvaluated 2 (expansion adding_scope zeroth_power).steps 1
  pub not_zero : ¬ AreEvaluated 2 (expansion adding_scope zeroth_power).steps 0

-- t^-3 is a power of t^-1, and no inverse of a power: 2, 3 and 4 states
pub record ThirdPowerOfInverse : Type 0 where
  pub expands : expansion adding_scope third_of_inverse ≡ record { steps = Looked (Some t_term) ∷ Inverted t_term ∷ Multiplied (Inverse t_term) (Inverse t_term) ∷ Multiplied inverse_square (Inverse t_term) ∷ []; value = Product inverse_square (Inverse t_term) }
  pub not_inverse_last : (expansion adding_scope third_of_inverse).value ≢ Inverse (Product square t_term)
  pub charge : AreEvaluated 2 (expansion adding_scope third_of_inverse).steps 9
  pub not_seven : ¬ AreEvaluated 2 (expansion adding_scope third_of_inverse).steps 7
