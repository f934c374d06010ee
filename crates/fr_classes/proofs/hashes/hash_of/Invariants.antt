use Rattle.std.proofs.Common.{◌≡◌, ◌<◌}
use Rattle.fr_classes.specs.Hashes.{hash_of}
use Rattle.fr_classes.proofs.hashes.hash_of.Given as goal

abbrev pub invariant-loop-x : goal.invariant-loop-x
invariant-loop-x l = record {
  hash : l.hash ≡ hash_of l.row l.shorter l.x;
  small : l.hash < 4294967296;
}
