use Rattle.std.proofs.Common.{length}
use Rattle.fr_classes.proofs.GrowingLaws.{AreLevelsTo}
use Rattle.fr_classes.proofs.growing.extend_hashes.Given as goal

abbrev pub invariant-loop-k : goal.invariant-loop-k
invariant-loop-k l = AreLevelsTo l.rows (length l.fn.hashes.items) l.k l.fn.hashes.items l.hashes.items
