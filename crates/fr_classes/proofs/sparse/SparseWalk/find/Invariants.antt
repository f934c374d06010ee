use Rattle.std.proofs.Common.{◌≡◌, ◌≢◌, ◌<◌, ◌≤◌, ◌+◌, ◌%◌, ℕ, length, get_or}
use Rattle.fr_classes.specs.Sparse.{bucket_at}
use Rattle.fr_classes.proofs.sparse.SparseWalk.find.Given as goal

abbrev pub invariant-loop-next : goal.invariant-loop-next
invariant-loop-next l = record {
  within : l.next ≤ length l.self.keys.items;
  own : (i : ℕ) → l.next ≡ i + 1 → bucket_at l.self i ≡ l.key % length l.self.latest.items;
  apart : (i : ℕ) → l.next ≤ i → i < length l.self.keys.items → get_or l.self.keys.items i 0 ≢ l.key;
}

abbrev pub decreases-loop-next : goal.decreases-loop-next
decreases-loop-next l = l.next
