use Rattle.std.proofs.Common.{take}
use Rattle.fr_classes.specs.Refinement.{IsSpreadOver}
use Rattle.fr_classes.specs.Predecessors.{lists_of}
use Rattle.fr_classes.proofs.partition.Partition.mark_before_each.Given as goal

abbrev pub invariant-loop-row : goal.invariant-loop-row
invariant-loop-row l = IsSpreadOver l.fn.self l.self (lists_of l.before) (take l.row-index l.moved)
