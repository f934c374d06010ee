use Rattle.fr_classes.specs.Refinement.{IsWider}
use Rattle.fr_classes.proofs.partition.Partition.mark_most.Given as goal

abbrev pub invariant-loop-i : goal.invariant-loop-i
invariant-loop-i l = IsWider l.fn.self l.self
