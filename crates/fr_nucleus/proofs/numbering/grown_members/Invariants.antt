use Rattle.std.proofs.Common.{◌-◌, length}
use Rattle.fr_nucleus.specs.Numberings.{AreGrown}
use Rattle.fr_nucleus.proofs.numbering.grown_members.Given as goal

abbrev pub invariant-loop-classes : goal.invariant-loop-classes
invariant-loop-classes l = AreGrown l.of l.walk.keys l.products.rows l.known.rows l.rows.items

abbrev pub decreases-loop-classes : goal.decreases-loop-classes
decreases-loop-classes l = length l.walk.keys - length l.rows.items
