use Rattle.std.proofs.Common.{◌≡◌, ◌≢◌, ◌<◌, ◌≤◌, ◌+◌, ℕ, length}
use Rattle.fr_classes.specs.KeyTables.{entry_at, bucket_at, bucket_of}
use Rattle.fr_classes.proofs.key_table.KeyTable.number_of.Given as goal

abbrev pub invariant-loop-number : goal.invariant-loop-number
invariant-loop-number l = record {
  within : l.number ≤ length l.self.entries.items;
  own : (i : ℕ) → l.number ≡ i + 1 → bucket_at (length l.self.latest.items) l.self.entries.items i ≡ bucket_of (length l.self.latest.items) l.key;
  apart : (i : ℕ) → l.number ≤ i → i < length l.self.entries.items → (entry_at l.self.entries.items i).key ≢ l.key;
}

abbrev pub decreases-loop-number : goal.decreases-loop-number
decreases-loop-number l = l.number
