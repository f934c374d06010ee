use Rattle.std.proofs.Common.{◌≤◌, length}
use Rattle.fr_growth.specs.Edges.{AreEdgesFrom}
use Rattle.fr_growth.proofs.edges.find_edges.Given as goal

abbrev pub invariant-loop-place : goal.invariant-loop-place
invariant-loop-place l = record {
  edges : AreEdgesFrom l.m.alphabet l.m.rows l.distances.rows.items l.distances.values.items l.edges.list.items l.edges.latest.items l.place l.m.alphabet;
  place : l.place ≤ length l.distances.rows.items;
}

abbrev pub decreases-loop-place : goal.decreases-loop-place
decreases-loop-place l = l.place
