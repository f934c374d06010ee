use Rattle.std.proofs.Common.{◌≡◌, ◌≤◌, length, take}
use Rattle.fr_expr.specs.Names.{above}
use Rattle.fr_expr.proofs.env.last_above.Given as goal

abbrev pub invariant-loop-k : goal.invariant-loop-k
invariant-loop-k l = (l.k ≤ length l.bindings) × (above l.line l.bindings ≡ above l.line (take l.k l.bindings))

abbrev pub decreases-loop-k : goal.decreases-loop-k
decreases-loop-k l = l.k
