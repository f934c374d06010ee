use Rattle.std.proofs.Common.{◌≡◌, ◌++◌, ◌∷◌, [], ◌+◌, ◌*◌, ◌≤◌, drop, length}
use Rattle.fr_canon.specs.Texts.{numbers_text}
use Rattle.fr_eval.proofs.RowTextLaws.{numbers_of}
use Rattle.fr_eval.proofs.rows.push_nexts.Given as goal

abbrev pub invariant-loop-x : goal.invariant-loop-x
invariant-loop-x l = record {
  left : l.x ≤ l.letters;
  width : length l.text ≡ 42;
  room : 5 * l.x + 1 ≤ l.at;
  most : l.at ≤ 41;
  written : drop l.at l.text ≡ numbers_text (drop l.x (numbers_of l.row)) ++ 62 ∷ [];
}

abbrev pub decreases-loop-x : goal.decreases-loop-x
decreases-loop-x l = l.x
