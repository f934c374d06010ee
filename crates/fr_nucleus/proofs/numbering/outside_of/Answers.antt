use Rattle.fr_nucleus.proofs.NumberingLaws.{AreOutside-more}
use Rattle.fr_nucleus.proofs.numbering.outside_of.Goals as goal

pub loop-class-preserved : goal.loop-class-preserved
loop-class-preserved c = AreOutside-more c.args.of.now c.args.walk.now.keys c.loop-class.marks.items c.push.new.self.items c.loop-class.class-index c.known.result c.is_none.result c.loop-class.invariant c.known.ensures c.is_none.ensures c.in_ok-push.ensures.items
