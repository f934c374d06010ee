use Rattle.std.proofs.Common.{arith}
use Rattle.fr_eval.proofs.differences.different_image.Goals as goal

pub returns-clause-none : goal.returns-clause-none
returns-clause-none c = λ y l. c.loop-x.invariant y l (omega (arith, l.1, c.loop-x-test.false, c.letters-x-end.ensures.value))
