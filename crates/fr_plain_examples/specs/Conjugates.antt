-- Conjugates and commutators in Grigorchuk's group: the order of their steps, and their elements.
use Rattle.std.specs.Prelude.{◌≡◌, ◌≢◌, [], ◌∷◌, Some}
use Rattle.fr_model.specs.Terms.{Inverse, Product}
use Rattle.fr_plain.specs.Steps.{Looked, Inverted, Multiplied}
use Rattle.fr_plain.specs.Expansions.{expansion}
use Rattle.fr_plain_examples.specs.Scripts.{a_term, b_term, grigorchuk_scope, conjugate, commutator}

-- b^a is a^-1*b*a, from left to right, and b is looked up first
pub record ConjugateIsByTheSecond : Type 0 where
  pub expands : expansion grigorchuk_scope conjugate ≡ record { steps = Looked (Some b_term) ∷ Looked (Some a_term) ∷ Inverted a_term ∷ Multiplied (Inverse a_term) b_term ∷ Multiplied (Product (Inverse a_term) b_term) a_term ∷ []; value = Product (Product (Inverse a_term) b_term) a_term }
  pub not_turned : (expansion grigorchuk_scope conjugate).value ≢ Product (Product a_term b_term) (Inverse a_term)
  pub not_from_right : (expansion grigorchuk_scope conjugate).value ≢ Product (Inverse a_term) (Product b_term a_term)

-- [a,b] is a^-1*b^-1*a*b, and both names are looked up first
pub record CommutatorBeginsWithInverses : Type 0 where
  pub expands : expansion grigorchuk_scope commutator ≡ record {
    steps = Looked (Some a_term) ∷ Looked (Some b_term) ∷ Inverted a_term ∷ Inverted b_term ∷ Multiplied (Inverse a_term) (Inverse b_term) ∷ Multiplied (Product (Inverse a_term) (Inverse b_term)) a_term ∷ Multiplied (Product (Product (Inverse a_term) (Inverse b_term)) a_term) b_term ∷ [];
    value = Product (Product (Product (Inverse a_term) (Inverse b_term)) a_term) b_term;
  }
  pub not_inverses_last : (expansion grigorchuk_scope commutator).value ≢ Product (Product (Product a_term b_term) (Inverse a_term)) (Inverse b_term)
