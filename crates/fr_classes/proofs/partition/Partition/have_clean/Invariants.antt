use Rattle.std.proofs.Common.{ℕ, ◌<◌}
use Rattle.fr_classes.specs.Refinement.{work_at, clean_at}
use Rattle.fr_classes.proofs.partition.Partition.have_clean.Given as goal

abbrev pub invariant-loop-item : goal.invariant-loop-item
invariant-loop-item l = (k : ℕ) → k < l.item-index → 0 < clean_at l.self (work_at l.work k).class
