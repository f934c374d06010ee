use Rattle.std.proofs.Common.{ℕ, ◌≡◌, ◌<◌, length, take, get_or}
use Rattle.fr_product.specs.Limits.{arrivals_from}
use Rattle.fr_product.proofs.limits.arrivals.Given as goal

abbrev pub invariant-loop-row : goal.invariant-loop-row
invariant-loop-row l = record {
  size : length l.arrivals.items ≡ length l.rows;
  counts : (y : ℕ) → y < length l.rows → get_or l.arrivals.items y 0 ≡ arrivals_from y (take l.row-index l.rows);
}
