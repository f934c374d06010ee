use Rattle.fr_classes.specs.Growing.{IsHashed}
use Rattle.fr_classes.proofs.growing.hash_rows.Given as goal

abbrev pub invariant-loop-s : goal.invariant-loop-s
invariant-loop-s l = IsHashed l.rows l.first l.k l.s l.fn.hashes.items l.hashes.items
