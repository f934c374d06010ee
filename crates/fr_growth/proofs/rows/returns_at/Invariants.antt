use Rattle.std.proofs.Common.{◌≡◌, ◌≤◌}
use Rattle.fr_growth.specs.Levels.{returns_of}
use Rattle.fr_growth.proofs.rows.returns_at.Given as goal

abbrev pub invariant-loop-x : goal.invariant-loop-x
invariant-loop-x l = record {
  few : l.count ≤ l.x;
  value : l.count ≡ returns_of l.x l.m.rows l.numbers l.s;
}
