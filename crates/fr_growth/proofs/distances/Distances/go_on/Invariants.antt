use Rattle.std.proofs.Common.{◌≡◌, ◌+◌, ◌<◌, length, get_or}
use Rattle.fr_growth.specs.Distances.{IsSearch, value_at}
use Rattle.fr_growth.proofs.distances.Distances.go_on.Given as goal

abbrev pub invariant-loop-x : goal.invariant-loop-x
invariant-loop-x l = record {
  search : IsSearch l.m.alphabet l.m.rows l.from l.self.rows.items l.self.values.items l.self.seen l.place l.x;
  place : l.place < length l.self.rows.items;
  row : l.row ≡ get_or l.self.rows.items l.place 0;
  distance : l.distance ≡ value_at l.self.rows.items l.self.values.items l.place + 1;
}
