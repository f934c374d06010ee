use Rattle.std.proofs.Common.{◌≡◌, ◌≤◌, length}
use Rattle.fr_growth.specs.Knots.{IsNumbering}
use Rattle.fr_growth.proofs.knots.Descent.number.Given as goal

abbrev pub invariant-loop-place : goal.invariant-loop-place
invariant-loop-place l = record {
  path : l.self.path ≡ l.fn.self.path;
  bounds : l.self.bounds ≡ l.fn.self.bounds;
  walk : l.self.walk ≡ l.fn.self.walk;
  letters : l.self.letters ≡ l.fn.self.letters;
  count : l.self.count ≡ l.fn.self.count;
  least : l.begin ≤ l.place;
  numbering : IsNumbering (length l.m.rows) l.fn.self.path.items l.begin l.place l.fn.self.count l.fn.self.places.items l.fn.self.numbers.items l.fn.self.order.items l.self.places.items l.self.numbers.items l.self.order.items;
}
