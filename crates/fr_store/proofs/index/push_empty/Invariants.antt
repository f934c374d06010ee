use Rattle.std.proofs.Common.{◌≡◌, ◌≤◌, ◌++◌, replicate, vec_capacity}
use Rattle.fr_store.proofs.index.push_empty.Given as goal

abbrev pub invariant-loop : goal.invariant-loop
invariant-loop l = record {
  cells : l.cells.items ≡ l.fn.cells.items ++ replicate l.counter 0;
  room : vec_capacity l.fn.cells ≤ vec_capacity l.cells;
}
