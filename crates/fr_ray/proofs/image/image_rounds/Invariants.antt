use Rattle.std.proofs.Common.{◌≡◌, ◌<◌, ◌-◌, length}
use Rattle.fr_ray.proofs.RoundLaws.{AreRounds}
use Rattle.fr_ray.proofs.image.image_rounds.Given as goal

abbrev pub invariant-loop-machine : goal.invariant-loop-machine
invariant-loop-machine l = record {
  bound : l.walk.bound ≡ 1024;
  in_range : l.row < length l.m.rows;
  rounds : AreRounds l.m.rows l.r.before l.r.period l.walk.keys l.row l.letters.items;
}

abbrev pub decreases-loop-machine : goal.decreases-loop-machine
decreases-loop-machine l = 1024 - length l.walk.keys
