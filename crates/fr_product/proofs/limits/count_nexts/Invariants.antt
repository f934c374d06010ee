use Rattle.std.proofs.Common.{ℕ, ◌≡◌, ◌<◌, ◌+◌, length, take, get_or}
use Rattle.fr_machine.specs.Rows.{state_of}
use Rattle.fr_product.specs.Limits.{times}
use Rattle.fr_product.proofs.limits.count_nexts.Given as goal

abbrev pub invariant-loop-x : goal.invariant-loop-x
invariant-loop-x l = record {
  size : length l.arrivals ≡ length l.fn.arrivals;
  counts : (y : ℕ) → y < length l.fn.arrivals → get_or l.arrivals y 0 ≡ get_or l.fn.arrivals y 0 + times y (take l.x (state_of l.row).next);
}
