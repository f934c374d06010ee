use Rattle.std.proofs.Common.{arith}
use Rattle.fr_model.proofs.PermutationLaws.{letter_at}
use Rattle.fr_eval.proofs.images.push_digits.Goals as goal

pub overflow_add-x : goal.overflow_add-x
overflow_add-x c = let l = letter_at 8 c.args.letters.now c.loop-x.x-index 0 c.requires c.loop-x-test.true in omega (arith, l.1)
