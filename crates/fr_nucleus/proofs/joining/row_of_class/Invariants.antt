use Rattle.std.proofs.Common.{◌≡◌, get_or}
use Rattle.fr_nucleus.proofs.NextLaws.{IsFilling}
use Rattle.fr_nucleus.proofs.joining.row_of_class.Given as goal

abbrev pub invariant-loop-x : goal.invariant-loop-x
invariant-loop-x l = IsFilling (λ y n. n ≡ get_or l.of (get_or l.row.next y 0) 0) l.next l.x
