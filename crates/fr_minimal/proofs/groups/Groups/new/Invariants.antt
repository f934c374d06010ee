use Rattle.std.proofs.Common.{ℕ, ◌≡◌, ◌<◌, get_or, length}
use Rattle.fr_minimal.proofs.groups.Groups.new.Given as goal

abbrev pub invariant-loop-row : goal.invariant-loop-row
invariant-loop-row l = record {
  size : length l.parents.items ≡ l.row;
  alone : (i : ℕ) → i < l.row → get_or l.parents.items i 0 ≡ i;
}
