use Rattle.fr_growth.proofs.ChainBuilding.{walking_first, walking_letter, walking_more}
use Rattle.fr_growth.proofs.chaining.walk.Goals as goal

pub loop-at-init : goal.loop-at-init
loop-at-init c =
    let m = c.machine-machine.ensures.valid in
    walking_first c.args.m.now.alphabet c.args.m.now.rows m c.requires.tame.moving c.requires.tame.marks c.args.numbers.now c.requires.numbers c.requires.tame.returns c.requires.tame.counts c.requires.tame.few c.args.from c.args.to c.requires.from c.requires.to c.requires.inside c.args.word.now.items

pub staying_letter-x-requires-clause-some : goal.staying_letter-x-requires-clause-some
staying_letter-x-requires-clause-some c =
    let m = c.machine-machine.ensures.valid in
    walking_letter c.args.m.now.alphabet c.args.m.now.rows m c.requires.tame.moving c.requires.tame.marks c.args.numbers.now c.requires.numbers c.requires.tame.returns c.requires.tame.counts c.requires.tame.few c.args.from c.args.to c.requires.from c.requires.to c.requires.inside c.args.word.now.items c.loop-at.at c.loop-at.word.items c.loop-at-test.true c.loop-at.invariant

pub loop-at-preserved : goal.loop-at-preserved
loop-at-preserved c =
    let m = c.machine-machine.ensures.valid in
    walking_more c.args.m.now.alphabet c.args.m.now.rows m c.requires.tame.moving c.requires.tame.marks c.args.numbers.now c.requires.numbers c.requires.tame.returns c.requires.tame.counts c.requires.tame.few c.args.from c.args.to c.requires.from c.requires.to c.requires.inside c.args.word.now.items c.loop-at.at c.next-at.result c.staying_letter-x.result c.loop-at.word.items c.push.new.self.items
    c.loop-at-test.true c.loop-at.invariant c.staying_letter-x.ensures (rw c.machine-machine.ensures.value at c.next-at.ensures.value) c.in_ok-push.ensures.items
