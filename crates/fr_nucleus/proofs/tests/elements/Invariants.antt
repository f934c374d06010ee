use Rattle.std.proofs.Common.{◌≡◌, length}
use Rattle.fr_nucleus.specs.Elements.{AreOver}
use Rattle.fr_nucleus.proofs.tests.elements.Given as goal

abbrev pub invariant-loop-s : goal.invariant-loop-s
invariant-loop-s l = record {
  count : length l.elements.items ≡ l.s-index;
  over : AreOver l.m.alphabet l.elements.items;
}
