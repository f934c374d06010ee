use Rattle.fr_growth.proofs.ChainBuilding.{turning_letter}
use Rattle.fr_growth.proofs.chaining.round_trip.Goals as goal

pub staying_letter-x-requires-clause-some : goal.staying_letter-x-requires-clause-some
staying_letter-x-requires-clause-some c =
    let m = c.machine-machine.ensures.valid in
    turning_letter c.args.m.now.alphabet c.args.m.now.rows m c.requires.some.0.moving c.requires.some.0.marks c.args.numbers.now c.requires.numbers c.requires.some.0.returns c.requires.some.0.counts c.args.row c.requires.row c.requires.some.1

pub walk-requires-clause-tame : goal.walk-requires-clause-tame
walk-requires-clause-tame c = c.requires.some.0
