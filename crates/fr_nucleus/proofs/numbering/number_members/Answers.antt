use Rattle.std.proofs.Common.{◌∙◌, refl}
use Rattle.fr_nucleus.proofs.NumberingLaws.{AreKnown-more}
use Rattle.fr_nucleus.proofs.numbering.number_members.Goals as goal

pub loop-member-preserved : goal.loop-member-preserved
loop-member-preserved c = record {
  bound = c.in_ok-number_of.ensures.bound ∙ c.loop-member.invariant.bound;
  known = AreKnown-more c.args.of.now c.args.members c.args.width c.loop-member.member c.in_ok-number_of.field-0 _ c.loop-member.walk c.number_of.new.self c.loop-member.invariant.known c.loop-member-test.true c.requires.apart refl c.in_ok-number_of.ensures;
}
