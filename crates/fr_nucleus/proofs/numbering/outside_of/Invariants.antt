use Rattle.fr_nucleus.specs.Numberings.{AreOutside}
use Rattle.fr_nucleus.proofs.numbering.outside_of.Given as goal

abbrev pub invariant-loop-class : goal.invariant-loop-class
invariant-loop-class l = AreOutside l.of l.walk.keys l.marks.items l.class-index
