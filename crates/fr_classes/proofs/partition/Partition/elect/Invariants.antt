use Rattle.std.proofs.Common.{ℕ, ◌≡◌, ◌<◌, ◌⊎◌, length}
use Rattle.fr_classes.specs.Refinement.{work_at, known_at, clean_at, lead_at, IsOfWork}
use Rattle.fr_classes.proofs.partition.Partition.elect.Given as goal

abbrev pub invariant-loop-item : goal.invariant-loop-item
invariant-loop-item l = record {
  of : l.self.of.items ≡ l.fn.self.of.items;
  clean : l.self.clean.items ≡ l.fn.self.clean.items;
  dirty : l.self.dirty.items ≡ l.fn.self.dirty.items;
  todo : l.self.todo.items ≡ l.fn.self.todo.items;
  size : length l.self.known.items ≡ length l.fn.self.known.items;
  leads : length l.self.leads.items ≡ length l.fn.self.known.items;
  kept : (c : ℕ) → 0 < clean_at l.fn.self c → known_at l.self c ≡ known_at l.fn.self c;
  elected : (k : ℕ) → k < l.item-index → (0 < clean_at l.fn.self (work_at l.work k).class) ⊎ IsOfWork l.work l.item-index (work_at l.work k).class (known_at l.self (work_at l.work k).class);
  led : (k : ℕ) → k < length l.work → 0 < lead_at l.self (work_at l.work k).class → IsOfWork l.work l.item-index (work_at l.work k).class (known_at l.self (work_at l.work k).class);
}
