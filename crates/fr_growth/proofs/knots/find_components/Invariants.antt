use Rattle.std.proofs.Common.{◌≤◌, get_or}
use Rattle.fr_growth.specs.Knots.{IsDescent, work}
use Rattle.fr_growth.proofs.knots.find_components.Given as goal

abbrev pub invariant-loop-descent : goal.invariant-loop-descent
invariant-loop-descent l = record {
  search : IsDescent l.m.alphabet l.m.rows l.descent;
  begun : 1 ≤ get_or l.descent.letters.items 0 0;
}

abbrev pub decreases-loop-descent : goal.decreases-loop-descent
decreases-loop-descent l = work l.m.alphabet l.descent
