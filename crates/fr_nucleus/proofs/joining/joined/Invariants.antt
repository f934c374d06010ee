use Rattle.fr_nucleus.proofs.JoiningLaws.{IsJoinPart}
use Rattle.fr_nucleus.proofs.joining.joined.Given as goal

abbrev pub invariant-loop-row : goal.invariant-loop-row
invariant-loop-row l = IsJoinPart l.m.rows l.n.rows l.rows.items l.row-index
