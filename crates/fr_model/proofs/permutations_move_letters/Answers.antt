use Rattle.fr_model.proofs.PermutationLaws.{IsPermutation-identity, image-identity, IsPermutation-composite, image-composite, IsPermutation-inverse, image-inverse, preimage-image}
use Rattle.fr_model.proofs.permutations_move_letters.Goals as goal

pub returns : goal.returns
returns c = record {
  identity = λ d. (IsPermutation-identity d, image-identity d);
  composites = λ d p q a b. (IsPermutation-composite d p q a b, image-composite d p q a b);
  inverses = λ d p a. (IsPermutation-inverse d p a, λ x. (image-inverse d p a x, preimage-image d p x a));
}
