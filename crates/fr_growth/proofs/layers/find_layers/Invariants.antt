use Rattle.std.proofs.Common.{◌≡◌, ◌+◌, ◌-◌, length}
use Rattle.fr_growth.specs.Layers.{AreLayers, IsLowered}
use Rattle.fr_growth.proofs.layers.find_layers.Given as goal

abbrev pub invariant-loop-long : goal.invariant-loop-long
invariant-loop-long l = record {
  layers : AreLayers l.m.alphabet l.m.rows l.goals l.from l.distances.values.items l.sets.items l.layer.rows.items l.bound;
  own : length l.layer.letters.items ≡ length l.m.rows;
  room : length l.next.letters.items ≡ length l.m.rows;
  size : length l.sets.items ≡ l.long + 1;
  lowered : IsLowered l.m.alphabet l.m.rows l.goals l.from l.long l.most l.bound;
}

abbrev pub decreases-loop-long : goal.decreases-loop-long
decreases-loop-long l = 4096 - l.long
