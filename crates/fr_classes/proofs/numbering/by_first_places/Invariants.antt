use Rattle.std.proofs.Common.{◌≡◌, take, length}
use Rattle.fr_classes.proofs.FindLaws.{NamesIn}
use Rattle.fr_classes.proofs.numbering.by_first_places.Given as goal

abbrev pub invariant-loop-key : goal.invariant-loop-key
invariant-loop-key l = record {
  named : NamesIn (take l.key-index l.keys) l.numbers.items l.names.items l.count;
  size : length l.names.items ≡ l.bound;
}
