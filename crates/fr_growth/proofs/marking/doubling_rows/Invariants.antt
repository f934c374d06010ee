use Rattle.std.proofs.Common.{◌≡◌, ◌<◌, ◌↔◌, ℕ, true, length}
use Rattle.fr_growth.specs.Layers.{is_marked}
use Rattle.fr_growth.specs.Doubling.{Doubles}
use Rattle.fr_growth.proofs.marking.doubling_rows.Given as goal

abbrev pub invariant-loop-number : goal.invariant-loop-number
invariant-loop-number l = record {
  count : length l.marks.items ≡ l.number-index;
  right : (s : ℕ) → s < l.number-index → (is_marked l.marks.items s ≡ true) ↔ Doubles (length l.numbers) l.numbers l.returns s;
}
