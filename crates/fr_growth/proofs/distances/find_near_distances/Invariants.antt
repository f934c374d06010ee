use Rattle.std.proofs.Common.{◌-◌, length}
use Rattle.fr_growth.specs.Distances.{IsSearch}
use Rattle.fr_growth.proofs.distances.find_near_distances.Given as goal

abbrev pub invariant-loop-place : goal.invariant-loop-place
invariant-loop-place l = IsSearch l.m.alphabet l.m.rows l.from l.distances.rows.items l.distances.values.items l.distances.seen l.place 0

abbrev pub decreases-loop-place : goal.decreases-loop-place
decreases-loop-place l = length l.m.rows - l.place
