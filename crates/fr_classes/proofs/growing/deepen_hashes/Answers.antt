use Rattle.std.proofs.Common.{arith, ◌≡◌, subst}
use Rattle.fr_classes.proofs.GrowingLaws.{AreLevelsTo, AreLevelsTo-same, AreLevelsTo-more, AreLevels-deepened}
use Rattle.fr_classes.proofs.growing.deepen_hashes.Goals as goal

pub loop-k-init : goal.loop-k-init
loop-k-init c = AreLevelsTo-same c.args.rows.now c.args.from c.args.hashes.now.items c.requires.levels

pub loop-k-preserved : goal.loop-k-preserved
loop-k-preserved c = AreLevelsTo-more c.requires.machine.0 c.args.rows.now c.requires.machine.1 0 c.loop-k.k c.args.hashes.now.items c.loop-k.hashes.items c.hash_rows.new.hashes.items c.loop-k.invariant c.hash_rows.ensures

pub returns : goal.returns
returns c =
    let hs0 = c.args.hashes.now.items in
    let depth = c.args.depth in
    let all : c.loop-k.k ≡ depth = omega (arith, c.loop-k-test.false, c.loop-k.auto.k-end, c.requires.least) in
    let to : AreLevelsTo c.args.rows.now 0 depth hs0 c.loop-k.hashes.items = subst (λ k. AreLevelsTo c.args.rows.now 0 k hs0 c.loop-k.hashes.items) all c.loop-k.invariant in
    record { levels = AreLevels-deepened c.requires.machine.0 c.args.rows.now c.requires.machine.1 depth hs0 c.loop-k.hashes.items to }
