use Rattle.std.proofs.Common.{◌≡◌, length}
use Rattle.fr_classes.specs.Hashes.{AreInvariant}
use Rattle.fr_classes.proofs.hashes.hashes.Given as goal

abbrev pub invariant-loop : goal.invariant-loop
invariant-loop l = record {
  count : length l.hashes.items ≡ length l.rows;
  shorter_count : length l.shorter.items ≡ length l.rows;
  alike : AreInvariant l.rows l.hashes.items;
}
