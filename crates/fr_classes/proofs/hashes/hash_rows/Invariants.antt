use Rattle.std.proofs.Common.{ℕ, ◌≡◌, ◌<◌, length, get_or}
use Rattle.fr_machine.specs.Rows.{row_at}
use Rattle.fr_classes.specs.Hashes.{hash_of}
use Rattle.fr_classes.proofs.hashes.hash_rows.Given as goal

abbrev pub invariant-loop-s : goal.invariant-loop-s
invariant-loop-s l = record {
  count : length l.hashes.items ≡ length l.rows;
  each : (k : ℕ) → k < l.s → get_or l.hashes.items k 0 ≡ hash_of (row_at l.rows k) l.shorter (length (row_at l.rows k).perm);
}
