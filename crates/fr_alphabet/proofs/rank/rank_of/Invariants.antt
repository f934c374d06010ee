use Rattle.std.proofs.Common.{◌≡◌, ◌-◌, ◌≤◌, drop, length}
use Rattle.fr_model.specs.Ranks.{rank, factorial}
use Rattle.fr_alphabet.proofs.rank.rank_of.Given as goal

abbrev pub invariant-loop-i : goal.invariant-loop-i
invariant-loop-i l = record {
  total : l.total ≡ rank (drop l.i l.images);
  factor : l.factor ≡ factorial (length l.images - l.i);
  at : l.i ≤ length l.images;
}

abbrev pub decreases-loop-i : goal.decreases-loop-i
decreases-loop-i l = l.i
