use Rattle.std.proofs.Common.{◌≡◌, ◌++◌, map, take, length, get_or}
use Rattle.fr_classes.proofs.SignatureLaws.{written}
use Rattle.fr_classes.proofs.signature.signature.Given as goal

abbrev pub invariant-loop-x : goal.invariant-loop-x
invariant-loop-x l = l.signature ≡ written l.row.perm l.x ++ written (map (λ n. get_or l.of n 0) (take (length l.row.perm) l.row.next)) l.x
