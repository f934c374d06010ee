use Rattle.std.proofs.Common.{◌≡◌, ◌+◌, ◌-◌, ◌++◌, map, take, drop}
use Rattle.fr_product.proofs.growing.renumbered.Given as goal

abbrev pub invariant-loop-n : goal.invariant-loop-n
invariant-loop-n l = l.n-items ≡ map (λ n. n + 1 - l.first) (take l.n-index l.row.next) ++ drop l.n-index l.row.next
