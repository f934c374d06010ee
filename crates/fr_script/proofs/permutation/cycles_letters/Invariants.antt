use Rattle.std.proofs.Common.{◌≡◌, ◌++◌, flat_map, drop}
use Rattle.fr_script.proofs.permutation.cycles_letters.Given as goal

abbrev pub invariant-loop-cycle : goal.invariant-loop-cycle
invariant-loop-cycle l = l.letters.items ++ flat_map (λ cycle. cycle) (drop l.cycle-index l.cycles) ≡ flat_map (λ cycle. cycle) l.cycles
