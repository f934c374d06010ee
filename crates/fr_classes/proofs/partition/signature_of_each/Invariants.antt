use Rattle.std.proofs.Common.{◌≡◌, length}
use Rattle.fr_classes.proofs.partition.signature_of_each.Given as goal

abbrev pub invariant-loop-s : goal.invariant-loop-s
invariant-loop-s l = length l.known.items ≡ l.guess.count
