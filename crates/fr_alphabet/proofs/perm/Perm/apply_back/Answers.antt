use Rattle.std.proofs.Common.{ℕ, List, ◌≡◌, length, sym, ◌∙◌, ap, subst}
use Rattle.fr_model.specs.Words.{IsLetter}
use Rattle.fr_model.specs.Permutations.{preimage}
use Rattle.fr_model.proofs.PermutationLaws.{preimage-IsLetter}
use Rattle.fr_alphabet.proofs.Images.{IsPermutation-self}
use Rattle.fr_alphabet.proofs.perm.Perm.apply_back.Goals as goal

pub returns-clause-value : goal.returns-clause-value
returns-clause-value c = c.place_of.ensures ∙ ap (λ (p : List ℕ). preimage p c.args.y) c.self.view_is

pub returns-clause-letter : goal.returns-clause-letter
returns-clause-letter c =
    let self = c.args.self.now in
    let P : ℕ → Type 0 = λ x. IsLetter (length self) x in
    subst P (sym (c.place_of.ensures ∙ ap (λ (p : List ℕ). preimage p c.args.y) c.self.view_is)) (preimage-IsLetter (length self) self c.args.y (IsPermutation-self c.self.inside.count c.self.inside.images self c.self.view_is c.self.invariant) c.requires)
