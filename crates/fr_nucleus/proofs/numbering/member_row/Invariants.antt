use Rattle.std.proofs.Common.{◌≡◌, ◌<◌, get_or, length}
use Rattle.fr_nucleus.proofs.NextLaws.{IsFilling}
use Rattle.fr_nucleus.proofs.numbering.member_row.Given as goal

abbrev pub invariant-loop-x : goal.invariant-loop-x
invariant-loop-x l = IsFilling (λ y n. (n < length l.walk.keys) × (get_or l.walk.keys n 0 ≡ get_or l.of (get_or l.row.next y 0) 0)) l.next l.x
