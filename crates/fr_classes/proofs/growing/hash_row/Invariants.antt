use Rattle.std.proofs.Common.{◌≡◌, ◌<◌}
use Rattle.fr_classes.specs.Hashes.{hash_of}
use Rattle.fr_classes.specs.Growing.{level}
use Rattle.fr_classes.proofs.growing.hash_row.Given as goal

abbrev pub invariant-loop-x : goal.invariant-loop-x
invariant-loop-x l = record {
  hash : l.hash ≡ hash_of l.row (level l.hashes l.k) l.x;
  small : l.hash < 4294967296;
}
