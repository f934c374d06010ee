use Rattle.std.proofs.Common.{ℕ, ◌≡◌, ◌<◌, length, get_or}
use Rattle.fr_classes.specs.Sparse.{IsSparse, AreMet}
use Rattle.fr_classes.specs.Growing.{level}
use Rattle.fr_classes.proofs.growing.number_rows.Given as goal

abbrev pub invariant-loop-s : goal.invariant-loop-s
invariant-loop-s l = record {
  sparse : IsSparse l.walk;
  met : AreMet (level l.hashes l.depth) l.of.items l.walk.keys.items l.s;
  same : (s : ℕ) → s < length l.fn.of.items → get_or l.of.items s 0 ≡ get_or l.fn.of.items s 0;
}
