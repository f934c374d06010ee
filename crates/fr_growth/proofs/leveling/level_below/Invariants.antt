use Rattle.fr_growth.specs.Levels.{IsLevelBelow}
use Rattle.fr_growth.proofs.leveling.level_below.Given as goal

abbrev pub invariant-loop-x : goal.invariant-loop-x
invariant-loop-x l = IsLevelBelow l.x l.m.rows l.numbers l.levels l.s l.most
