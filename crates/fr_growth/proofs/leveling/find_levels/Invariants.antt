use Rattle.fr_growth.proofs.LevelLaws.{LevelsTo}
use Rattle.fr_growth.proofs.leveling.find_levels.Given as goal

abbrev pub invariant-loop-s : goal.invariant-loop-s
invariant-loop-s l = LevelsTo l.m.alphabet l.m.rows l.components.numbers.items l.components.order.items l.gains l.levels.values.items l.levels.heads.items l.s-index
