use Rattle.std.proofs.Common.{arith}
use Rattle.fr_model.specs.Permutations.{composite}
use Rattle.fr_alphabet.proofs.Images.{IsPadded-written, IsPermutation-then, letter_in_array, then_more}
use Rattle.fr_alphabet.proofs.perm.Perm.then.Goals as goal

pub apply-requires : goal.apply-requires
apply-requires c = letter_in_array c.self.inside.count c.loop-i.i _ c.self.inside.images c.args.self.now c.self.view_is c.self.invariant c.loop-i-test.true c.requires

pub loop-i-preserved : goal.loop-i-preserved
loop-i-preserved c = then_more c.self.inside.count c.loop-i.i c.apply.result c.self.inside.images c.args.self.now c.args.q.now c.loop-i.images c.self.view_is c.self.invariant c.loop-i-test.true c.apply.ensures.value c.loop-i.invariant

pub invariant_of-result : goal.invariant_of-result
invariant_of-result c = IsPadded-written c.self.inside.count (composite c.args.self.now c.args.q.now) _ c.loop-i.i c.self.invariant.least c.self.invariant.most
    (IsPermutation-then c.self.inside.count c.self.inside.images c.args.self.now c.q.inside.count c.q.inside.images c.args.q.now c.self.view_is c.self.invariant c.q.view_is c.q.invariant c.requires) (omega arith) c.loop-i.invariant
