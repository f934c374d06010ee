use Rattle.std.proofs.Common.{◌≡◌, ◌==◌, ◌<◌, if◌then◌else◌, ℕ, get_or, length}
use Rattle.fr_growth.specs.Levels.{returns_of}
use Rattle.fr_growth.proofs.rows.returns.Given as goal

abbrev pub invariant-loop-s : goal.invariant-loop-s
invariant-loop-s l = record {
  count : length l.returns.items ≡ l.s;
  right : (s : ℕ) → s < l.s → get_or l.returns.items s 0 ≡ (if get_or l.moving s 0 == 0 then 0 else returns_of l.m.alphabet l.m.rows l.numbers s);
}
