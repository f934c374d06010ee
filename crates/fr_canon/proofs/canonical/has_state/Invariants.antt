use Rattle.std.proofs.Common.{ℕ, ◌≡◌, ◌+◌, ◌<◌, get_or}
use Rattle.fr_canon.proofs.canonical.has_state.Given as goal

abbrev pub invariant-loop-x : goal.invariant-loop-x
invariant-loop-x l = (y : ℕ) → y < l.x → get_or l.code (l.start + y + 1) 0 ≡ get_or l.row.next y 0 + 1
