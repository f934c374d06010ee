use Rattle.std.proofs.Common.{suc, length}
use Rattle.fr_minimal.specs.Searches.{AgreeBelow}
use Rattle.fr_eval.proofs.differences.different_image.Given as goal

abbrev pub invariant-loop-x : goal.invariant-loop-x
invariant-loop-x l = AgreeBelow (length l.p) l.p l.q (suc l.x)
