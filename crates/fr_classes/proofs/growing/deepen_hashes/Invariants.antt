use Rattle.fr_classes.proofs.GrowingLaws.{AreLevelsTo}
use Rattle.fr_classes.proofs.growing.deepen_hashes.Given as goal

abbrev pub invariant-loop-k : goal.invariant-loop-k
invariant-loop-k l = AreLevelsTo l.rows 0 l.k l.fn.hashes.items l.hashes.items
