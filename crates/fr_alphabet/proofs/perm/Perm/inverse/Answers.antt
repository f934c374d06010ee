use Rattle.std.proofs.Common.{arith, ◌≡◌, sym, ◌∙◌, get_or, ap, ◌+◌}
use Rattle.fr_model.specs.Permutations.{IsPermutation, inverse_permutation, preimage}
use Rattle.fr_model.proofs.PermutationLaws.{IsPermutation-inverse}
use Rattle.fr_alphabet.proofs.Images.{written_more, IsPadded-written, take-written, get_or-inverse, length-inverse}
use Rattle.fr_alphabet.proofs.perm.Perm.inverse.Goals as goal

pub loop-i-preserved : goal.loop-i-preserved
loop-i-preserved c =
    let self = c.args.self.now in
    let i = c.loop-i.i in
    let s : IsPermutation c.self.inside.count self = rw (← c.self.view_is) c.self.invariant.permutes in
    let n = length-inverse c.self.inside.count self s.degree in
    let v : c.place_of.result ≡ get_or (inverse_permutation self) i 0 =
    c.place_of.ensures ∙ ap (λ p. preimage p (i + 1)) c.self.view_is ∙ sym (get_or-inverse c.self.inside.count self i s.degree c.loop-i-test.true) in
    rw c.loop-i.invariant (written_more (inverse_permutation self) i c.place_of.result (omega (arith, n)) (omega (arith, n, c.self.invariant.most)) v)

pub invariant_of-result : goal.invariant_of-result
invariant_of-result c =
    let s : IsPermutation c.self.inside.count c.args.self.now = rw (← c.self.view_is) c.self.invariant.permutes in
    IsPadded-written c.self.inside.count (inverse_permutation c.args.self.now) _ c.loop-i.i c.self.invariant.least c.self.invariant.most (IsPermutation-inverse _ _ s) (omega arith) c.loop-i.invariant

pub returns : goal.returns
returns c =
    let s : IsPermutation c.self.inside.count c.args.self.now = rw (← c.self.view_is) c.self.invariant.permutes in
    take-written c.self.inside.count (inverse_permutation c.args.self.now) _ c.loop-i.i (length-inverse _ _ s.degree) (omega arith) c.loop-i.invariant
