use Rattle.fr_growth.specs.Layers.{IsPart, IsToFirst, IsLowered}
use Rattle.fr_growth.proofs.layers.layer_before.Given as goal

abbrev pub invariant-loop-place : goal.invariant-loop-place
invariant-loop-place l = record {
  part : IsPart l.m.alphabet l.m.rows l.goals l.distances.values.items l.edges.list.items l.long (λ e. IsToFirst l.m.rows l.edges.list.items l.rows l.place e) l.layer.set l.layer.rows.items l.layer.letters.items l.bound;
  lowered : IsLowered l.m.alphabet l.m.rows l.goals l.from l.long l.initial.bound l.bound;
}
