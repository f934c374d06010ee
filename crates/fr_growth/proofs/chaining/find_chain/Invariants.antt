use Rattle.std.proofs.Common.{get_or}
use Rattle.fr_growth.proofs.ChainBuilding.{IsPartChain}
use Rattle.fr_growth.proofs.chaining.find_chain.Given as goal

abbrev pub invariant-loop-level : goal.invariant-loop-level
invariant-loop-level l = IsPartChain l.m.alphabet l.m.rows l.moving l.numbers l.levels.values.items l.links.items l.word.items l.at l.level

abbrev pub decreases-loop-level : goal.decreases-loop-level
decreases-loop-level l = get_or l.numbers l.at 0
