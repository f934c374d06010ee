use Rattle.fr_nucleus.proofs.JoiningLaws.{IsReducedPart}
use Rattle.fr_nucleus.proofs.joining.reduced.Given as goal

abbrev pub invariant-loop-s : goal.invariant-loop-s
invariant-loop-s l = IsReducedPart l.m.rows l.of l.rows.items l.s
