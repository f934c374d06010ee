use Rattle.std.proofs.Common.{◌≡◌, length}
use Rattle.fr_growth.specs.Knots.{IsDescent}
use Rattle.fr_growth.proofs.knots.Descent.draw_together.Given as goal

abbrev pub invariant-loop-self : goal.invariant-loop-self
invariant-loop-self l = record {
  search : IsDescent l.m.alphabet l.m.rows l.self;
  path : l.self.path ≡ l.fn.self.path;
  walk : l.self.walk ≡ l.fn.self.walk;
  letters : l.self.letters ≡ l.fn.self.letters;
  places : l.self.places ≡ l.fn.self.places;
}

abbrev pub decreases-loop-self : goal.decreases-loop-self
decreases-loop-self l = length l.self.bounds.items
