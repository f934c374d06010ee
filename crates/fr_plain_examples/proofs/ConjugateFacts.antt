-- A conjugate and a commutator of Grigorchuk's group: what they stand for.
use Rattle.std.proofs.Common.{◌≡◌, [], ◌∷◌, Some, sym, ap, ◌∙◌}
use Rattle.std.specs.Prelude.{codes}
use Rattle.fr_model.specs.Terms.{Term, Inverse, Product}
use Rattle.fr_plain.specs.Steps.{Looked, Inverted, Multiplied}
use Rattle.fr_plain.specs.Expansions.{Expansion, expansion}
use Rattle.fr_plain_examples.specs.Scripts.{a_term, b_term, grigorchuk_scope, conjugate, commutator}
use Rattle.fr_plain_examples.specs.Conjugates.{ConjugateIsByTheSecond, CommutatorBeginsWithInverses}
use Rattle.fr_plain_examples.proofs.Expanded.{conjugate_is, commutator_is}

by_second : expansion grigorchuk_scope conjugate ≡ record { steps = Looked (Some b_term) ∷ Looked (Some a_term) ∷ Inverted a_term ∷ Multiplied (Inverse a_term) b_term ∷ Multiplied (Product (Inverse a_term) b_term) a_term ∷ []; value = Product (Product (Inverse a_term) b_term) a_term }
by_second = conjugate_is grigorchuk_scope (codes "b") (codes "a")

begins_with : expansion grigorchuk_scope commutator ≡ record {
  steps = Looked (Some a_term) ∷ Looked (Some b_term) ∷ Inverted a_term ∷ Inverted b_term ∷ Multiplied (Inverse a_term) (Inverse b_term) ∷ Multiplied (Product (Inverse a_term) (Inverse b_term)) a_term ∷ Multiplied (Product (Product (Inverse a_term) (Inverse b_term)) a_term) b_term ∷ [];
  value = Product (Product (Product (Inverse a_term) (Inverse b_term)) a_term) b_term;
}
begins_with = commutator_is grigorchuk_scope (codes "a") (codes "b")

pub conjugates : ConjugateIsByTheSecond
conjugates = record {
  expands = by_second;
  not_turned = λ e. let v : ◌≡◌ {A = Term} (Product (Product (Inverse a_term) b_term) a_term) (Product (Product a_term b_term) (Inverse a_term)) = sym (ap (λ (x : Expansion). x.value) by_second) ∙ e in cc;
  not_from_right = λ e. let v : ◌≡◌ {A = Term} (Product (Product (Inverse a_term) b_term) a_term) (Product (Inverse a_term) (Product b_term a_term)) = sym (ap (λ (x : Expansion). x.value) by_second) ∙ e in cc;
}

pub commutators : CommutatorBeginsWithInverses
commutators = record {
  expands = begins_with;
  not_inverses_last = λ e. let v : ◌≡◌ {A = Term} (Product (Product (Product (Inverse a_term) (Inverse b_term)) a_term) b_term) (Product (Product (Product a_term b_term) (Inverse a_term)) (Inverse b_term)) = sym (ap (λ (x : Expansion). x.value) begins_with) ∙ e in cc;
}
