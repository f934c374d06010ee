use Rattle.fr_classes.specs.Predecessors.{IsFilled}
use Rattle.fr_classes.proofs.predecessors.Predecessors.new.Given as goal

abbrev pub invariant-loop-s : goal.invariant-loop-s
invariant-loop-s l = IsFilled l.rows l.before l.s 0
