use Rattle.std.proofs.Common.{suc, ◌≡◌, ◌+◌, ◌-◌, ◌*◌, get_or}
use Rattle.fr_model.specs.Permutations.{image}
use Rattle.fr_nucleus.proofs.NextLaws.{IsFilling}
use Rattle.fr_nucleus.proofs.pairs.product_row.Given as goal

abbrev pub invariant-loop-x : goal.invariant-loop-x
invariant-loop-x l = IsFilling (λ y n. n ≡ get_or l.left.next y 0 * l.width + get_or l.right.next (image l.left.perm (suc y) - 1) 0) l.next l.x
