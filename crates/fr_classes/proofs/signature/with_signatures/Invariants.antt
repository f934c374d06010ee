use Rattle.std.proofs.Common.{◌≡◌, take}
use Rattle.fr_classes.specs.Refinement.{signed_rows}
use Rattle.fr_classes.proofs.signature.with_signatures.Given as goal

abbrev pub invariant-loop-s : goal.invariant-loop-s
invariant-loop-s l = l.work.items ≡ signed_rows l.rows l.of (take l.s-index l.todo)
