use Rattle.std.proofs.Common.{◌≡◌}
use Rattle.fr_model.specs.Permutations.{numbers_from}
use Rattle.fr_classes.proofs.partition.Partition.new.Given as goal

abbrev pub invariant-loop-row : goal.invariant-loop-row
invariant-loop-row l = l.todo.items ≡ numbers_from 0 l.row
