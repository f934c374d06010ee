use Rattle.std.proofs.Common.{ℕ, ◌≡◌, ◌+◌, length, drop}
use Rattle.fr_machine.specs.Rows.{state_of, states_of}
use Rattle.fr_product.specs.Spreading.{IsSpreading, unmarked}
use Rattle.fr_product.proofs.growing.GrowingLimits.mark_nexts.Given as goal

abbrev pub invariant-loop-x : goal.invariant-loop-x
invariant-loop-x l = record {
  count : length l.self.marks.items ≡ length l.m.rows;
  spreading : (from : ℕ) → IsSpreading l.m.alphabet (states_of l.m.rows) l.fn.self.marks.items l.fn.todo.items (state_of l.row).next from → IsSpreading l.m.alphabet (states_of l.m.rows) l.self.marks.items l.todo.items (drop l.x (state_of l.row).next) from;
  work : length l.todo.items + unmarked l.self.marks.items ≡ length l.fn.todo.items + unmarked l.fn.self.marks.items;
}
