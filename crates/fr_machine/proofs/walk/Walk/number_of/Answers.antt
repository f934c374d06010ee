use Rattle.std.proofs.Common.{arith}
use Rattle.fr_machine.specs.Walks.{IsPassed}
use Rattle.fr_machine.proofs.WalkLaws.{length-lt_from_fresh}
use Rattle.fr_machine.proofs.walk.Walk.number_of.Goals as goal

pub unreachable-requires : goal.unreachable-requires
unreachable-requires c =
    let p : IsPassed c.args.self.now c.number.new.self c.args.key 65536 = rw c.in-None.is at c.in_ok-number.ensures in
    let l = length-lt_from_fresh c.args.self.now.bound c.args.key c.args.self.now.keys c.keys-keys.ensures.valid c.requires.key p.fresh in
    omega (arith, l, p.full, c.requires.bound)
