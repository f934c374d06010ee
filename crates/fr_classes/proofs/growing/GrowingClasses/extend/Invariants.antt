use Rattle.std.proofs.Common.{◌-◌}
use Rattle.fr_classes.specs.Growing.{IsGrowing}
use Rattle.fr_classes.proofs.growing.GrowingClasses.extend.Given as goal

abbrev pub invariant-loop-self : goal.invariant-loop-self
invariant-loop-self l = IsGrowing l.m.rows l.self

abbrev pub decreases-loop-self : goal.decreases-loop-self
decreases-loop-self l = 24 - l.self.depth
