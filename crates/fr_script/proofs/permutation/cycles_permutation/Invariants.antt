use Rattle.std.proofs.Common.{◌≡◌, length, map, take}
use Rattle.fr_model.specs.Permutations.{numbers_from}
use Rattle.fr_script.specs.Cycles.{disjoint_cycles_image}
use Rattle.fr_script.proofs.permutation.cycles_permutation.Given as goal

abbrev pub invariant-loop-x : goal.invariant-loop-x
invariant-loop-x l = record {
  long : length l.images ≡ 8;
  written : take l.x l.images ≡ map (disjoint_cycles_image l.cycles) (numbers_from 1 l.x);
}
