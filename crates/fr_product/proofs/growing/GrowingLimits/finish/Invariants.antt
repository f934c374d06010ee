use Rattle.std.proofs.Common.{◌+◌, [], length}
use Rattle.fr_machine.specs.Rows.{states_of}
use Rattle.fr_product.specs.Spreading.{IsSpreading, unmarked}
use Rattle.fr_product.proofs.growing.GrowingLimits.finish.Given as goal

abbrev pub invariant-loop-s : goal.invariant-loop-s
invariant-loop-s l = IsSpreading l.m.alphabet (states_of l.m.rows) l.self.marks.items l.todo.items [] (length l.m.rows)

abbrev pub decreases-loop-s : goal.decreases-loop-s
decreases-loop-s l = length l.todo.items + unmarked l.self.marks.items
