use Rattle.std.proofs.Common.{◌≤◌}
use Rattle.fr_growth.proofs.WordLaws.{IsWalked}
use Rattle.fr_growth.proofs.least.extend.Given as goal

abbrev pub invariant-loop-left : goal.invariant-loop-left
invariant-loop-left l = record {
  walked : IsWalked l.m.alphabet l.m.rows l.goals l.sets l.from l.long l.left l.row l.initial.word.items l.word.items;
  most : l.left ≤ l.long;
}

abbrev pub decreases-loop-left : goal.decreases-loop-left
decreases-loop-left l = l.left
