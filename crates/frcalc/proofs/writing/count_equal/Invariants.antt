use Rattle.std.proofs.Common.{◌≡◌, ◌≤◌, ◌+◌, length}
use Rattle.fr_script.specs.Scripts.{lines_of}
use Rattle.frcalc.specs.Program.{count_equal}
use Rattle.frcalc.proofs.writing.count_equal.Given as goal

abbrev pub invariant-loop-rest : goal.invariant-loop-rest
invariant-loop-rest l = record {
  counted : l.count + count_equal (lines_of l.rest) ≡ count_equal (lines_of l.text);
  within : l.count + length l.rest ≤ length l.text;
}

abbrev pub decreases-loop-rest : goal.decreases-loop-rest
decreases-loop-rest l = length l.rest
