use Rattle.std.proofs.Common.{ℕ, ◌≡◌, ◌<◌, ◌≤◌, [], length, get_or, replicate}
use Rattle.fr_classes.specs.Growing.{AreListed}
use Rattle.fr_classes.proofs.growing.add_zeros.Given as goal

abbrev pub invariant-loop : goal.invariant-loop
invariant-loop l = record {
  count : length l.hashes.items ≡ l.counter;
  kept : AreListed l.fn.hashes.items l.hashes.items;
  zeros : (s : ℕ) → length l.fn.hashes.items ≤ s → s < l.counter → get_or l.hashes.items s [] ≡ replicate 25 0;
}
