use Rattle.std.proofs.Common.{◌≡◌, ◌++◌, ◌∷◌, length}
use Rattle.fr_model.specs.Permutations.{image}
use Rattle.fr_alphabet.specs.Writing.{letter_digit}
use Rattle.fr_alphabet.specs.Cycles.{path}
use Rattle.fr_alphabet.proofs.CycleLaws.{IsOnPath}
use Rattle.fr_alphabet.proofs.CycleTexts.{others_text, Keeps}
use Rattle.fr_alphabet.proofs.perm.Perm.push_cycle.Given as goal

abbrev pub invariant-loop-y : goal.invariant-loop-y
invariant-loop-y l = record {
  on : IsOnPath l.self l.x l.y;
  kept : Keeps l.fn.out.items l.out.items;
  text : l.out.items ++ others_text (path l.self l.x l.y) ≡ l.fn.out.items ++ 40 ∷ letter_digit l.x ∷ others_text (path l.self l.x (image l.self l.x));
}

abbrev pub decreases-loop-y : goal.decreases-loop-y
decreases-loop-y l = length (path l.self l.x l.y)
