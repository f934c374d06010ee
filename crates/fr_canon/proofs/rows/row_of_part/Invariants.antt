use Rattle.fr_canon.proofs.CodeRowLaws.{AreNextsRead}
use Rattle.fr_canon.proofs.rows.row_of_part.Given as goal

abbrev pub invariant-loop-x : goal.invariant-loop-x
invariant-loop-x l = AreNextsRead l.numbers l.next l.x
