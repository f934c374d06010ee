use Rattle.fr_canon.proofs.ReadLaws.{IsNextPart}
use Rattle.fr_canon.proofs.lines.read_next.Given as goal

abbrev pub invariant-loop-x : goal.invariant-loop-x
invariant-loop-x l = IsNextPart l.d l.count l.text l.rest l.next l.x
