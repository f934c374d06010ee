use Rattle.std.proofs.Common.{◌≡◌, length}
use Rattle.fr_nucleus.specs.Numberings.{AreNumbered}
use Rattle.fr_nucleus.proofs.numbering.number_limits.Given as goal

abbrev pub invariant-loop-s : goal.invariant-loop-s
invariant-loop-s l = record {
  bound : l.walk.bound ≡ length l.of;
  numbers : AreNumbered l.of l.limits l.fn.walk.keys l.walk.keys l.most l.s;
}
