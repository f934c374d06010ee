use Rattle.std.proofs.Common.{◌≡◌, ◌++◌, take}
use Rattle.fr_alphabet.proofs.CycleTexts.{Keeps}
use Rattle.fr_canon.specs.Texts.{numbers_text}
use Rattle.fr_canon.proofs.printing.push_numbers.Given as goal

abbrev pub invariant-loop-i : goal.invariant-loop-i
invariant-loop-i l = record {
  text : l.out.items ≡ l.fn.out.items ++ numbers_text (take l.i l.numbers);
  kept : Keeps l.fn.out.items l.out.items;
}
