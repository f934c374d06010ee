use Rattle.std.proofs.Common.{ℕ, ◌≡◌, ◌<◌, get_or, length, List}
use Rattle.fr_minimal.specs.Groups.{IsShared, IsRearranged}
use Rattle.fr_minimal.proofs.groups.Groups.least.Given as goal

abbrev pub invariant-loop-parent : goal.invariant-loop-parent
invariant-loop-parent l = record {
  rearranged : IsRearranged l.fn.self.parents.items l.self.parents.items;
  inside : l.at < length l.self.parents.items;
  above : l.parent ≡ get_or l.self.parents.items l.at 0;
  same : (image : ℕ → List ℕ) → IsShared l.fn.self.parents.items image → image l.at ≡ image l.row;
}

abbrev pub decreases-loop-parent : goal.decreases-loop-parent
decreases-loop-parent l = l.at
