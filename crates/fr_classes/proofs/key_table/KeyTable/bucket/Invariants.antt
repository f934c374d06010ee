use Rattle.std.proofs.Common.{◌≡◌, ◌<◌, drop, get_or}
use Rattle.fr_classes.specs.KeyTables.{key_hash_from}
use Rattle.fr_classes.proofs.key_table.KeyTable.bucket.Given as goal

abbrev pub invariant-loop-place : goal.invariant-loop-place
invariant-loop-place l = record {
  rest : key_hash_from l.hash (drop l.place l.key) ≡ key_hash_from (get_or l.key 0 0) (drop 9 l.key);
  small : l.hash < 4294967296;
}
