use Rattle.std.proofs.Common.{length, ◌+◌, ◌-◌}
use Rattle.fr_growth.proofs.ChainBuilding.{IsWalking}
use Rattle.fr_growth.proofs.chaining.walk.Given as goal

abbrev pub invariant-loop-at : goal.invariant-loop-at
invariant-loop-at l = IsWalking l.m.alphabet l.m.rows l.from l.to l.initial.word.items l.at l.word.items

abbrev pub decreases-loop-at : goal.decreases-loop-at
decreases-loop-at l = length l.m.rows + length l.initial.word.items - length l.word.items
