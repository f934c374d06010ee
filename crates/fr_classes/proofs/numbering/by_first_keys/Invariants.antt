use Rattle.fr_classes.specs.Sparse.{IsSparse, AreMet}
use Rattle.fr_classes.proofs.numbering.by_first_keys.Given as goal

abbrev pub invariant-loop-key : goal.invariant-loop-key
invariant-loop-key l = record {
  sparse : IsSparse l.walk;
  met : AreMet l.keys l.of.items l.walk.keys.items l.key-index;
}
