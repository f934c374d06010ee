use Rattle.std.proofs.Common.{[]}
use Rattle.fr_machine.specs.Rows.{states_of}
use Rattle.fr_product.specs.Spreading.{IsSpreading}
use Rattle.fr_product.proofs.growing.GrowingLimits.spread.Given as goal

abbrev pub invariant-loop-s : goal.invariant-loop-s
invariant-loop-s l = IsSpreading l.m.alphabet (states_of l.m.rows) l.self.marks.items l.todo.items [] l.s
