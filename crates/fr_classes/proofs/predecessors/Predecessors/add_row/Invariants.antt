use Rattle.fr_classes.specs.Predecessors.{IsFilled}
use Rattle.fr_classes.proofs.predecessors.Predecessors.add_row.Given as goal

abbrev pub invariant-loop-x : goal.invariant-loop-x
invariant-loop-x l = IsFilled l.rows l.self l.s l.x
