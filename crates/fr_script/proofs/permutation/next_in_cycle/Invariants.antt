use Rattle.std.proofs.Common.{◌≡◌, drop, get_or}
use Rattle.fr_script.specs.Cycles.{letter_after}
use Rattle.fr_script.proofs.permutation.next_in_cycle.Given as goal

abbrev pub invariant-loop-i : goal.invariant-loop-i
invariant-loop-i l = letter_after (get_or l.cycle 0 0) (drop l.i l.cycle) l.x ≡ letter_after (get_or l.cycle 0 0) l.cycle l.x
