use Rattle.std.proofs.Common.{◌≡◌, ◌++◌, take, map}
use Rattle.fr_alphabet.specs.Writing.{letter_digit}
use Rattle.fr_eval.proofs.images.push_digits.Given as goal

abbrev pub invariant-loop-x : goal.invariant-loop-x
invariant-loop-x l = l.out.items ≡ l.initial.out.items ++ map letter_digit (take l.x-index l.letters)
