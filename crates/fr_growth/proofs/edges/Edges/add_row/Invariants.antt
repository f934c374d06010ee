use Rattle.fr_growth.specs.Edges.{AreEdgesFrom}
use Rattle.fr_growth.proofs.edges.Edges.add_row.Given as goal

abbrev pub invariant-loop-x : goal.invariant-loop-x
invariant-loop-x l = AreEdgesFrom l.m.alphabet l.m.rows l.distances.rows.items l.distances.values.items l.self.list.items l.self.latest.items l.place l.x
