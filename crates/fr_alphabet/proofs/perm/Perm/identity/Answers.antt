use Rattle.std.proofs.Common.{arith, ◌≡◌, length, get_or, ◌+◌, ◌∙◌}
use Rattle.fr_model.specs.Permutations.{identity_permutation}
use Rattle.fr_model.proofs.PermutationLaws.{IsPermutation-identity, length-numbers_from, get_or-numbers_from}
use Rattle.fr_alphabet.proofs.Images.{written_more, IsPadded-written, take-written}
use Rattle.fr_alphabet.proofs.perm.Perm.identity.Goals as goal

pub loop-i-preserved : goal.loop-i-preserved
loop-i-preserved c =
    let d = c.letters-d.result in
    let i = c.loop-i.i in
    let n : length (identity_permutation d) ≡ d = length-numbers_from 1 d in
    let v : i + 1 ≡ get_or (identity_permutation d) i 0 = omega (arith, get_or-numbers_from 1 d i 0 (omega arith)) in
    rw c.loop-i.invariant (written_more (identity_permutation d) i (i + 1) (omega arith) (omega arith) v)

pub invariant_of-result : goal.invariant_of-result
invariant_of-result c = IsPadded-written c.letters-d.result (identity_permutation c.letters-d.result) _ c.loop-i.i c.letters-d.ensures.least c.letters-d.ensures.most (IsPermutation-identity _) (omega arith) c.loop-i.invariant

pub returns : goal.returns
returns c = take-written c.letters-d.result (identity_permutation c.letters-d.result) _ c.loop-i.i (length-numbers_from 1 _) (omega arith) c.loop-i.invariant ∙ rw c.letters-d.ensures.value
