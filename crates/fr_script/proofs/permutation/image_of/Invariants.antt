use Rattle.std.proofs.Common.{◌≡◌, drop}
use Rattle.fr_script.specs.Cycles.{disjoint_cycles_image}
use Rattle.fr_script.proofs.permutation.image_of.Given as goal

abbrev pub invariant-loop-cycle : goal.invariant-loop-cycle
invariant-loop-cycle l = disjoint_cycles_image (drop l.cycle-index l.cycles) l.x ≡ disjoint_cycles_image l.cycles l.x
