use Rattle.std.proofs.Common.{◌<◌, length}
use Rattle.fr_classes.specs.Refinement.{IsWider}
use Rattle.fr_classes.proofs.partition.Partition.mark_class.Given as goal

abbrev pub invariant-loop : goal.invariant-loop
invariant-loop l = record { wider : IsWider l.fn.self l.self; row : l.member < length l.fn.self.of.items }
