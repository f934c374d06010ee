use Rattle.std.proofs.Common.{◌≡◌, ◌++◌, map, take, drop}
use Rattle.fr_alphabet.specs.Insertion.{raised}
use Rattle.fr_alphabet.proofs.rank.put_first.Given as goal

abbrev pub invariant-loop-y : goal.invariant-loop-y
invariant-loop-y l = l.y-items ≡ map (raised l.x) (take l.y-index l.initial.y-items) ++ drop l.y-index l.initial.y-items
