use Rattle.fr_growth.specs.Layers.{IsPart, IsLowered}
use Rattle.fr_growth.proofs.PartLaws.{IsDone, IsHere}
use Rattle.fr_growth.proofs.layers.enter_before.Given as goal

abbrev pub invariant-loop-number : goal.invariant-loop-number
invariant-loop-number l = record {
  part : IsPart l.m.alphabet l.m.rows l.goals l.distances.values.items l.edges.list.items l.long (λ e. IsDone l.m.rows l.edges.list.items l.rows l.place l.number e) l.layer.set l.layer.rows.items l.layer.letters.items l.bound;
  here : IsHere l.m.rows l.edges.list.items l.rows l.place l.number;
  lowered : IsLowered l.m.alphabet l.m.rows l.goals l.from l.long l.initial.bound l.bound;
}

abbrev pub decreases-loop-number : goal.decreases-loop-number
decreases-loop-number l = l.number
