use Rattle.std.proofs.Common.{length}
use Rattle.fr_script.proofs.ScriptLaws.{Left}
use Rattle.fr_script.proofs.script.read_script.Given as goal

abbrev pub invariant-loop-rest : goal.invariant-loop-rest
invariant-loop-rest l = Left l.bytes l.rest l.items l.reader

abbrev pub decreases-loop-rest : goal.decreases-loop-rest
decreases-loop-rest l = length l.rest
