use Rattle.std.proofs.Common.{ℕ, ◌≡◌, ◌<◌, false, get_or}
use Rattle.fr_growth.specs.Layers.{is_marked}
use Rattle.fr_growth.proofs.least.nearest.Given as goal

abbrev pub invariant-loop-row : goal.invariant-loop-row
invariant-loop-row l = (j : ℕ) → j < l.row-index → is_marked l.goals (get_or l.distances.rows.items j 0) ≡ false
