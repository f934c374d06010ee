use Rattle.std.proofs.Common.{ℕ, ◌≡◌, ◌<◌, length, get_or}
use Rattle.fr_classes.specs.Refinement.{work_at}
use Rattle.fr_classes.proofs.partition.clear.Given as goal

abbrev pub invariant-loop-item : goal.invariant-loop-item
invariant-loop-item l = record {
  count : length l.leads.items ≡ length l.fn.leads.items;
  none : (k : ℕ) → k < l.item-index → get_or l.leads.items (work_at l.work k).class 0 ≡ 0;
}
