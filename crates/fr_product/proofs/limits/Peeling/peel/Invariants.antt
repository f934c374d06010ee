use Rattle.std.proofs.Common.{◌≡◌, drop, set, false}
use Rattle.fr_machine.specs.Rows.{state_of, states_of}
use Rattle.fr_product.specs.Limits.{IsPeeling}
use Rattle.fr_product.proofs.limits.Peeling.peel.Given as goal

abbrev pub invariant-loop-x : goal.invariant-loop-x
invariant-loop-x l = record {
  peeling : IsPeeling l.m.alphabet (states_of l.m.rows) l.self.remains.items l.self.arrivals.items l.self.todo.items (drop l.x (state_of l.row).next);
  remains : l.self.remains.items ≡ set l.fn.self.remains.items l.s false;
}
