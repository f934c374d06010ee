use Rattle.std.proofs.Common.{◌≡◌, length}
use Rattle.fr_nucleus.specs.Numberings.{AreKnown}
use Rattle.fr_nucleus.proofs.numbering.number_members.Given as goal

abbrev pub invariant-loop-member : goal.invariant-loop-member
invariant-loop-member l = record {
  bound : l.walk.bound ≡ length l.of;
  known : AreKnown l.of l.walk.keys l.members l.width l.member;
}
