use Rattle.std.proofs.Common.{[]}
use Rattle.fr_machine.specs.Rows.{states_of}
use Rattle.fr_product.specs.Limits.{IsPeeling}
use Rattle.fr_product.proofs.PeelLaws.{left_count}
use Rattle.fr_product.proofs.limits.limit_rows.Given as goal

abbrev pub invariant-loop-s : goal.invariant-loop-s
invariant-loop-s l = IsPeeling l.m.alphabet (states_of l.m.rows) l.peeling.remains.items l.peeling.arrivals.items l.peeling.todo.items []

abbrev pub decreases-loop-s : goal.decreases-loop-s
decreases-loop-s l = left_count l.peeling.remains.items
