use Rattle.std.proofs.Common.{arith}
use Rattle.fr_alphabet.proofs.RankedImages.{IsRanked_none, IsRanked_more, rest_images_below, rank_fits}
use Rattle.fr_alphabet.proofs.rank.images_of_rank.Goals as goal

pub loop-n-init : goal.loop-n-init
loop-n-init c = IsRanked_none c.args.d c.args.r c.requires.most

pub put_first-requires-clause-small : goal.put_first-requires-clause-small
put_first-requires-clause-small c = rest_images_below c.args.d c.loop-n.n _ _ c.loop-n.images c.loop-n-test.true c.requires.most c.loop-n.invariant

pub loop-n-preserved : goal.loop-n-preserved
loop-n-preserved c = IsRanked_more c.args.d c.loop-n.n c.args.r c.loop-n.rest _ _ c.loop-n.images c.put_first.new.images c.loop-n-test.true c.requires.most c.loop-n.invariant (omega (arith, c.from-choices.ensures)) (omega arith) c.put_first.ensures

pub returns-else-rest-gt0-clause-accepts : goal.returns-else-rest-gt0-clause-accepts
returns-else-rest-gt0-clause-accepts c = ((λ t. rank_fits c.args.d c.loop-n.n c.args.r c.loop-n.rest c.loop-n.images (omega arith) c.loop-n.invariant c.if-rest-gt0.false), λ h. cc)
