use Rattle.std.proofs.Common.{◌≡◌, length, nat_le}
use Rattle.std.specs.List.{list_all}
use Rattle.fr_model.specs.Permutations.{image}
use Rattle.fr_alphabet.specs.Cycles.{path}
use Rattle.fr_alphabet.proofs.CycleLaws.{IsOnPath}
use Rattle.fr_alphabet.proofs.perm.Perm.begins_cycle.Given as goal

abbrev pub invariant-loop-y : goal.invariant-loop-y
invariant-loop-y l = record {
  on : IsOnPath l.self l.x l.y;
  rest : list_all (nat_le l.x) (path l.self l.x l.y) ≡ list_all (nat_le l.x) (path l.self l.x (image l.self l.x));
}

abbrev pub decreases-loop-y : goal.decreases-loop-y
decreases-loop-y l = length (path l.self l.x l.y)
