use Rattle.fr_product.proofs.PeelLaws.{IsUnreachedPart}
use Rattle.fr_product.proofs.limits.unreached.Given as goal

abbrev pub invariant-loop-s : goal.invariant-loop-s
invariant-loop-s l = IsUnreachedPart l.arrivals l.todo.items l.s
