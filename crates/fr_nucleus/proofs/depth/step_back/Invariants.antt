use Rattle.fr_nucleus.specs.Depths.{IsBackPart}
use Rattle.fr_nucleus.proofs.depth.step_back.Given as goal

abbrev pub invariant-loop-s : goal.invariant-loop-s
invariant-loop-s l = IsBackPart l.m.rows l.here l.before l.s
