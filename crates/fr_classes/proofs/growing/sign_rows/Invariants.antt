use Rattle.std.proofs.Common.{ℕ, ◌<◌, ◌≤◌}
use Rattle.fr_classes.specs.Growing.{AreListed, IsSigned}
use Rattle.fr_classes.proofs.growing.sign_rows.Given as goal

abbrev pub invariant-loop-s : goal.invariant-loop-s
invariant-loop-s l = record {
  signed : (k : ℕ) → l.first ≤ k → k < l.s → IsSigned l.rows l.of l.known.items k;
  kept : AreListed l.fn.known.items l.known.items;
}
