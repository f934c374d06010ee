use Rattle.std.proofs.Common.{ℕ, [], ◌≡◌, ◌<◌, get_or}
use Rattle.fr_classes.specs.Refinement.{signature_at}
use Rattle.fr_classes.proofs.partition.is_stable.Given as goal

abbrev pub invariant-loop-s : goal.invariant-loop-s
invariant-loop-s l = (k : ℕ) → k < l.s → signature_at l.rows l.guess.of.items k ≡ get_or l.known.items (get_or l.guess.of.items k 0) []
