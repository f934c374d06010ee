use Rattle.std.proofs.Common.{subst, sym, ap, ◌∙◌, arith}
use Rattle.fr_model.specs.Permutations.{image, IsPermutation}
use Rattle.fr_model.proofs.PermutationLaws.{IsPermutation-inverse, image-inverse}
use Rattle.fr_block.proofs.block.image_back.Goals as goal

pub apply-requires : goal.apply-requires
apply-requires c =
    let p = subst (IsPermutation _) (sym c.inverse.ensures) (IsPermutation-inverse _ c.args.perm.now c.letters-count.ensures.permutes) in
    (c.requires.0, omega (arith, c.requires.1, p.degree, c.letters-count.ensures.permutes.degree))

pub returns-clause-value : goal.returns-clause-value
returns-clause-value c = c.apply.ensures.value ∙ ap (λ p. image p c.args.x) c.inverse.ensures ∙ image-inverse _ c.args.perm.now c.letters-count.ensures.permutes c.args.x

pub returns-clause-letter : goal.returns-clause-letter
returns-clause-letter c =
    let p = subst (IsPermutation _) (sym c.inverse.ensures) (IsPermutation-inverse _ c.args.perm.now c.letters-count.ensures.permutes) in
    (c.apply.ensures.letter.0, omega (arith, c.apply.ensures.letter.1, p.degree, c.letters-count.ensures.permutes.degree))
