use Rattle.std.proofs.Common.{ℕ, ◌≡◌, ◌+◌, ◌-◌, ◌<◌, ◌≤◌, length, slice_index}
use Rattle.fr_layout.proofs.rows.row_of_fields.Given as goal

abbrev pub invariant-loop-x : goal.invariant-loop-x
invariant-loop-x l = record {
  size : length l.next ≡ 8;
  done : (k : ℕ) → k < l.x → slice_index l.next k ≡ slice_index l.fields (k + 1) - 1 - l.block.start;
  left : (k : ℕ) → l.x ≤ k → slice_index l.next k ≡ 0;
}
