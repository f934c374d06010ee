use Rattle.std.proofs.Common.{◌≡◌, drop}
use Rattle.fr_script.specs.Cycles.{has_repeat}
use Rattle.fr_script.proofs.permutation.has_repeat.Given as goal

abbrev pub invariant-loop-i : goal.invariant-loop-i
invariant-loop-i l = has_repeat (drop l.i l.letters) ≡ has_repeat l.letters
