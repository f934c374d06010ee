use Rattle.std.proofs.Common.{◌≡◌, ◌<◌, ℕ, length, false}
use Rattle.fr_classes.specs.Refinement.{flag_at, work_at}
use Rattle.fr_classes.proofs.SettlingLaws.{IsSettling}
use Rattle.fr_classes.proofs.partition.Partition.settle.Given as goal

abbrev pub invariant-loop-item : goal.invariant-loop-item
invariant-loop-item l = record {
  settling : IsSettling l.rows l.fn.self.of.items (length l.fn.self.known.items) l.self l.seen l.moved.items;
  done : (k : ℕ) → k < l.item-index → flag_at l.self (work_at l.item-items k).row ≡ false;
  still : (s : ℕ) → flag_at l.fn.self s ≡ false → flag_at l.self s ≡ false;
}
